use Rattle.std.proofs.Common.{arith}
use Rattle.pc_syntax.specs.PartsLaws.{small-size}
use Rattle.pc_syntax.proofs.tree.Tree.put.Goals as goal

pub of_put-requires-clause-small : goal.of_put-requires-clause-small
of_put-requires-clause-small c = omega (arith, c.of_tree-new.ensures.outline.size, small-size c.args.piece.now c.of_tree-new.ensures.proper)
