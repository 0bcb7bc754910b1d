use Rattle.std.proofs.Common.{length}
use Rattle.pc_syntax.proofs.outline.Outline.+of_put.Given as goal

abbrev pub decreases-of_put : goal.decreases-of_put
decreases-of_put l = length l.steps.now
