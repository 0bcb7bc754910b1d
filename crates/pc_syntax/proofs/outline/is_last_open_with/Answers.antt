use Rattle.std.proofs.Common.{sym, ◌∙◌, arith}
use Rattle.pc_syntax.proofs.Changed.{last_open-set_last, last_open-set_other}
use Rattle.pc_syntax.proofs.outline.is_last_open_with.Goals as goal

pub returns-then-i-trees : goal.returns-then-i-trees
returns-then-i-trees c q e = e ∙ sym (last_open-set_last c.args.trees.now c.args.i q (omega arith))

pub returns : goal.returns
returns c q e = c.is_last_open.ensures ∙ sym (last_open-set_other c.args.trees.now c.args.i q (omega arith))
