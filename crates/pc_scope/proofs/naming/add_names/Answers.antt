use Rattle.std.proofs.Common.{arith}
use Rattle.pc_scope.proofs.InOrder.{names-start, names-more, names-end, kid-below}
use Rattle.pc_scope.proofs.naming.add_names.Goals as goal

pub loop-i-init : goal.loop-i-init
loop-i-init c = names-start c.args.at.now c.args.list.now c.kid_slice-name-items.result.now _ c.kid_slice-name-items.ensures.value

pub overflow_cast-i : goal.overflow_cast-i
overflow_cast-i c =
    omega (arith, kid-below c.args.list.now c.kid_slice-name-items.result.now c.loop-i.i c.kid_slice-name-items.ensures.value c.kid_slice-name-items.ensures.proper c.loop-i-test.true)

pub overflow_add-i : goal.overflow_add-i
overflow_add-i c =
    omega (arith, kid-below c.args.list.now c.kid_slice-name-items.result.now c.loop-i.i c.kid_slice-name-items.ensures.value c.kid_slice-name-items.ensures.proper c.loop-i-test.true)

pub loop-i-preserved : goal.loop-i-preserved
loop-i-preserved c =
    names-more c.args.at.now c.kid_slice-name-items.result.now c.loop-i.i c.name-item.result _ _ _
    c.loop-i-test.true c.name-item.is c.loop-i.invariant
    (rw c.in_ok-place.ensures at c.in_ok-add_name.ensures)

pub returns : goal.returns
returns c = names-end c.args.at.now c.kid_slice-name-items.result.now c.loop-i.i _ _ c.loop-i-test.false c.loop-i.invariant
