use Rattle.std.proofs.Common.{◌≡◌, ◌+◌, ◌<◌, ◌≤◌, length, get_or, sum_by, sym, ap, arith}
use Rattle.std.proofs.lemmas.List.{at_drop_all}
use Rattle.pc_syntax.specs.Plain.{kids_of}
use Rattle.pc_syntax.specs.PartsLaws.{size_of-kid, small-kids}
use Rattle.pc_syntax.specs.WellFormed.{size_of}
use Rattle.pc_parse.specs.Placing.{breadth}
use Rattle.pc_parse.specs.Quiet.{own_symbols}
use Rattle.pc_parse.proofs.Breadths.{breadth-kids, quiet_kid, sum-more}
use Rattle.pc_parse.proofs.quiet.+behind.Goals as goal

pub own_symbols-requires : goal.own_symbols-requires
own_symbols-requires t c =
    let small : length c.kid_slice-kids.result.now < 1000000 = rw c.kid_slice-kids.ensures.value (small-kids c.args.tree.now c.kid_slice-kids.ensures.proper) in
    omega (arith, small)

pub overflow_add-at : goal.overflow_add-at
overflow_add-at t c =
    let size = breadth-kids c.args.tree.now c.requires.quiet c.kid_slice-kids.ensures.proper.sound in
    let own : c.own_symbols.result ≡ own_symbols c.args.tree.now.kind (length (kids_of c.args.tree.now)) = rw (c.kind.ensures.value, c.kid_slice-kids.ensures.value) at c.own_symbols.ensures in
    omega (arith, size, own, c.requires.within)

pub loop-kid-init : goal.loop-kid-init
loop-kid-init t c =
    let size = breadth-kids c.args.tree.now c.requires.quiet c.kid_slice-kids.ensures.proper.sound in
    let own : c.own_symbols.result ≡ own_symbols c.args.tree.now.kind (length (kids_of c.args.tree.now)) = rw (c.kind.ensures.value, c.kid_slice-kids.ensures.value) at c.own_symbols.ensures in
    let kids = ap (sum_by breadth) c.kid_slice-kids.ensures.value in
    omega (arith, size, own, kids)

pub behind-at-requires : goal.behind-at-requires
behind-at-requires t c =
    let p = c.args.tree.now in
    let k = c.kid-item.result in
    let l : c.loop-kid.kid-index < length (kids_of p) = rw (← c.kid_slice-kids.ensures.value) c.loop-kid-test.true in
    let is : k ≡ get_or (kids_of p) c.loop-kid.kid-index k = rw (← c.kid_slice-kids.ensures.value) c.kid-item.is in
    let s : size_of k + 1 ≤ size_of p = size_of-kid p c.loop-kid.kid-index k l (sym is) in
    let more = sum-more c.kid_slice-kids.result.now c.loop-kid.kid-index k c.loop-kid-test.true c.kid-item.is in
    (omega (arith, s, c.decreases), (quiet_kid p c.loop-kid.kid-index k c.requires.quiet c.kid_slice-kids.ensures.proper.sound l is, omega (arith, more, c.loop-kid.invariant, c.requires.within)))

pub loop-kid-preserved : goal.loop-kid-preserved
loop-kid-preserved t c =
    let more = sum-more c.kid_slice-kids.result.now c.loop-kid.kid-index c.kid-item.result c.loop-kid-test.true c.kid-item.is in
    omega (arith, more, c.loop-kid.invariant, c.behind-at.ensures)

pub returns : goal.returns
returns t c =
    let none = at_drop_all (sum_by breadth) c.kid_slice-kids.result.now c.loop-kid.kid-index c.loop-kid-test.false in
    omega (arith, none, c.loop-kid.invariant)
