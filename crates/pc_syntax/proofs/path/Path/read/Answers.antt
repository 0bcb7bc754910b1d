use Rattle.std.proofs.Common.{sym, ◌∙◌}
use Rattle.pc_syntax.proofs.PathSteps.{steps_of-more, path_of-none}
use Rattle.pc_syntax.proofs.path.Path.read.Goals as goal

pub returns-in_default : goal.returns-in_default
returns-in_default c =
    let parts = rw (← c.deref-part-items.ensures.value) at c.in_ok-parts.ensures in
    path_of-none _ c.deref-part-items.result.now c.loop-part.part-index _ parts c.loop-part-test.true (sym c.step_of.ensures ∙ c.in_default.is)

pub loop-part-preserved : goal.loop-part-preserved
loop-part-preserved c =
    rw c.in_ok-push.ensures.ok (steps_of-more _ c.loop-part.part-index _ _ _ c.loop-part-test.true c.loop-part.invariant (sym c.step_of.ensures ∙ c.in-Some.is))
