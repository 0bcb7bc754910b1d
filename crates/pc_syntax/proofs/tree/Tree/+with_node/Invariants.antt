use Rattle.std.proofs.Common.{length}
use Rattle.pc_syntax.proofs.tree.Tree.+with_node.Given as goal

abbrev pub decreases-with_node : goal.decreases-with_node
decreases-with_node l = length l.steps.now
