use Rattle.std.proofs.Common.{length}
use Rattle.pc_syntax.proofs.measured.+depth_at.Given as goal

abbrev pub decreases-depth_at : goal.decreases-depth_at
decreases-depth_at l = length l.steps.now
