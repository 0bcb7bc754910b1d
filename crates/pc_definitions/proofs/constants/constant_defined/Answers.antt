use Rattle.std.proofs.Common.{sym, ◌∙◌}
use Rattle.pc_definitions.specs.ConstantMakes.{makes-constant-definition}
use Rattle.pc_definitions.specs.Namings.{is_second}
use Rattle.pc_definitions.specs.RuleLaws.{own-made}
use Rattle.pc_definitions.specs.Parts.{EntersName}
use Rattle.pc_definitions.proofs.constants.constant_defined.Goals as goal

pub returns : goal.returns
returns c =
    let t0 = c.args.tables.now in
    let t1 = c.enter.new.tables in
    let t2 = c.constant_at_place.new.tables in
    let t3 = c.leave.new.tables in
    let value = c.in_ok-value.value in
    let enters : EntersName c.args.block.0 t0 t1 c.args.name.now c.in_ok-naming.naming =
    record { shows = c.in_ok-naming.ensures.shows; place = c.in_ok-naming.ensures.place; moves = c.in_ok-naming.ensures.moves } in
    makes-constant-definition t0 t1 t2 t3 c.args.block.0 c.args.owner c.args.name.now c.args.value.now c.in_ok-naming.naming c.in_ok-own.own.items value c.in_ok-found.found c.requires.name c.requires.value enters
    c.in_ok-value.ensures.keeps c.in_ok-value.ensures.shows (record { place = c.in_ok-leave.ensures.place; moves = c.in_ok-leave.ensures.moves }) (own-made c.in_ok-own.own.items c.is_second.result (is_second c.in_ok-naming.naming) c.word.result.now c.args.name.now.word c.in_ok-own.ensures c.is_second.ensures c.word.ensures)
    (λ k w a b es ds hole own part. c.in_ok-found.ensures k w a b es ds (hole ∙ sym c.is_nameless.ensures) own part)
