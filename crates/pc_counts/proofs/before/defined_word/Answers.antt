use Rattle.std.proofs.Common.{sym, ◌∙◌}
use Rattle.pc_counts.specs.NamesLaws.{defined-other}
use Rattle.pc_counts.proofs.before.defined_word.Goals as goal

pub returns-in_default : goal.returns-in_default
returns-in_default c = c.first_word.ensures ∙ sym (defined-other c.args.node.now.kind c.args.node.now.kids (λ e. c.in_default.not-Vardef (c.kind.ensures.value ∙ e)))
