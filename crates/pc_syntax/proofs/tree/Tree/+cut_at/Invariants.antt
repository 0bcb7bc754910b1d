use Rattle.std.proofs.Common.{length}
use Rattle.pc_syntax.proofs.tree.Tree.+cut_at.Given as goal

abbrev pub decreases-cut_at : goal.decreases-cut_at
decreases-cut_at l = length l.steps.now
