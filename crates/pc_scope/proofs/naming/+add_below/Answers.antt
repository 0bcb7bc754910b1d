use Rattle.std.proofs.Common.{◌+◌, ◌≤◌, arith, sym, ◌∙◌, ap}
use Rattle.pc_syntax.specs.PartsLaws.{size_of-kid}
use Rattle.pc_syntax.specs.WellFormed.{size_of}
use Rattle.pc_scope.specs.Headings.{is_routine_kind}
use Rattle.pc_scope.proofs.InOrder.{below-start, below-more, below-end, node-other, kid-below}
use Rattle.pc_scope.proofs.naming.+add_below.Goals as goal

pub add_below-requires : goal.add_below-requires
add_below-requires t c =
    let d : size_of c.kid-item.result + 1 ≤ size_of c.args.tree.now =
    size_of-kid c.args.tree.now c.loop-i.i c.kid-item.result (rw c.kid_slice-kid-items.ensures.value at c.loop-i-test.true) (rw c.kid_slice-kid-items.ensures.value at (sym c.kid-item.is)) in
    (omega (arith, d, c.decreases), tt)

pub loop-i-init : goal.loop-i-init
loop-i-init t c = below-start c.args.at.now c.args.tree.now c.kid_slice-kid-items.result.now _ c.kid_slice-kid-items.ensures.value

pub overflow_cast-i : goal.overflow_cast-i
overflow_cast-i t c =
    omega (arith, kid-below c.args.tree.now c.kid_slice-kid-items.result.now c.loop-i.i c.kid_slice-kid-items.ensures.value c.kid_slice-kid-items.ensures.proper c.loop-i-test.true)

pub overflow_add-i : goal.overflow_add-i
overflow_add-i t c =
    omega (arith, kid-below c.args.tree.now c.kid_slice-kid-items.result.now c.loop-i.i c.kid_slice-kid-items.ensures.value c.kid_slice-kid-items.ensures.proper c.loop-i-test.true)

pub loop-i-preserved : goal.loop-i-preserved
loop-i-preserved t c =
    below-more c.args.at.now c.kid_slice-kid-items.result.now c.loop-i.i c.kid-item.result _ _ _
    c.loop-i-test.true c.kid-item.is c.loop-i.invariant
    (node-other _ c.kid-item.result _ _ _
    (sym (ap is_routine_kind c.kind.ensures.value) ∙ sym c.is_routine_kind.ensures ∙ c.if-is_routine_kind.false)
    (rw c.in_ok-place.ensures at c.in_ok-add_own.ensures) (rw c.in_ok-place.ensures at c.in_ok-add_below.ensures))

pub returns : goal.returns
returns t c = below-end c.args.at.now c.kid_slice-kid-items.result.now c.loop-i.i _ _ c.loop-i-test.false c.loop-i.invariant
