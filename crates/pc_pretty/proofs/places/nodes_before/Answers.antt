use Rattle.std.proofs.Common.{get_or, sym, arith}
use Rattle.std.proofs.lemmas.List.{drop_more}
use Rattle.pc_syntax.specs.PartsLaws.{small-size}
use Rattle.pc_pretty.proofs.Stepping.{KidRoom, kid_room, stepped_none, stepped}
use Rattle.pc_pretty.proofs.places.nodes_before.Goals as goal

pub loop-step-init : goal.loop-step-init
loop-step-init c = stepped_none _ _ _ c.steps-step-items.ensures

pub overflow_add-count : goal.overflow_add-count
overflow_add-count c =
    let kid : KidRoom c.loop-step.node.now c.in_ok-kid.kid.now (get_or c.steps-step-items.result.now c.loop-step.step-index 0) = kid_room _ _ _ (sym c.in_ok-kid.ensures.value) in
    grind (arith, kid.room, c.nodes_in.ensures, c.loop-step.invariant.small, small-size c.args.tree.now c.size.ensures.proper)

pub overflow_add-count-in-loop-step : goal.overflow_add-count-in-loop-step
overflow_add-count-in-loop-step c =
    let kid : KidRoom c.loop-step.node.now c.in_ok-kid.kid.now (get_or c.steps-step-items.result.now c.loop-step.step-index 0) = kid_room _ _ _ (sym c.in_ok-kid.ensures.value) in
    grind (arith, kid.room, c.nodes_in.ensures, c.loop-step.invariant.small, small-size c.args.tree.now c.size.ensures.proper)

pub loop-step-preserved : goal.loop-step-preserved
loop-step-preserved c =
    let items = c.steps-step-items.result.now in
    let here = drop_more items c.loop-step.step-index 0 c.loop-step-test.true in
    rw c.nodes_in.ensures (stepped _ _ _ _ (get_or items c.loop-step.step-index 0) _ _ (rw here at c.loop-step.invariant) (sym c.in_ok-kid.ensures.value))
