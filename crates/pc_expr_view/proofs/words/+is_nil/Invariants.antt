use Rattle.pc_syntax.specs.WellFormed.{size_of}
use Rattle.pc_expr_view.proofs.words.+is_nil.Given as goal

abbrev pub decreases-is_nil : goal.decreases-is_nil
decreases-is_nil l = size_of l.node.now
