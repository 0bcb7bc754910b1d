use Rattle.pc_session.proofs.OneSteps.{one_edit, one_load}
use Rattle.pc_session.proofs.laws.one_load.Goals as goal

pub returns : goal.returns
returns c = λ text. one_edit _ (one_load c.one_number.ensures.number text)
