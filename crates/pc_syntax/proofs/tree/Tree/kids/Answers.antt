use Rattle.std.proofs.Common.{arith}
use Rattle.pc_syntax.specs.PartsLaws.{small-kids}
use Rattle.pc_syntax.proofs.tree.Tree.kids.Goals as goal

pub overflow_cast-result : goal.overflow_cast-result
overflow_cast-result c = rw c.kid_slice.ensures.value (omega (arith, small-kids c.args.self.now c.kid_slice.ensures.proper))
