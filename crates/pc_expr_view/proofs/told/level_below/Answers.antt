use Rattle.std.proofs.Common.{arith}
use Rattle.pc_syntax.specs.WellFormed.{size_limit-is}
use Rattle.pc_expr_view.proofs.told.level_below.Goals as goal

pub overflow_add-result : goal.overflow_add-result
overflow_add-result c = omega (arith, c.requires, size_limit-is)
