use Rattle.pc_session.proofs.OneSteps.{one_edit, one_retype}
use Rattle.pc_session.proofs.laws.one_retype.Goals as goal

pub returns : goal.returns
returns c = λ range text. one_edit _ (one_retype c.one_number.ensures.number range text)
