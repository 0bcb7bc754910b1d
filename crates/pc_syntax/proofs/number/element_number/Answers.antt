use Rattle.std.proofs.Common.{sym, ◌∙◌}
use Rattle.pc_syntax.proofs.Numerals.{element_number-over}
use Rattle.pc_syntax.proofs.number.element_number.Goals as goal

pub returns-in-None : goal.returns-in-None
returns-in-None c = sym (element_number-over _ (sym c.value_of.ensures ∙ c.in-None.is))
