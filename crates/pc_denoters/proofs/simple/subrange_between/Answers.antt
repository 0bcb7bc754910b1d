use Rattle.pc_denoters.specs.SimpleMakes.{makes-constant, makes-subrange}
use Rattle.pc_denoters.proofs.simple.subrange_between.Goals as goal

pub returns : goal.returns
returns c = λ owner p.
    let t0 = c.args.tables.now in
    let t1 = c.constant_at_place.new.tables in
    let t2 = c.constant_at_place-2.new.tables in
    let x = c.args.low.now in
    let y = c.args.high.now in
    makes-subrange t0 t1 t2 c.subrange.new.types c.args.block.0 owner c.args.here p x y c.in_ok-first.first c.in_ok-last.last c.in_ok-found.found c.requires.there c.requires.low c.requires.high
    (makes-constant t0 t1 c.args.block.0 owner x c.in_ok-first.first c.requires.low c.in_ok-first.ensures.keeps c.in_ok-first.ensures.shows)
    (makes-constant t1 t2 c.args.block.0 owner y c.in_ok-last.last c.requires.high c.in_ok-last.ensures.keeps c.in_ok-last.ensures.shows)
    (λ k w l m n table def a b. c.in_ok-found.ensures.shows k w l m n table def a b) c.in_ok-found.ensures.extended
