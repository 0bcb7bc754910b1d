use Rattle.std.proofs.Common.{sym, ◌∙◌}
use Rattle.pc_syntax.proofs.Numerals.{step_of-over}
use Rattle.pc_syntax.proofs.path.step_of.Goals as goal

pub returns-in-None : goal.returns-in-None
returns-in-None c = sym (step_of-over _ (sym c.value_of.ensures ∙ c.in-None.is))
