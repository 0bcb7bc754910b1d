use Rattle.pc_session.proofs.OneSteps.{one_redone}
use Rattle.pc_session.proofs.laws.one_redo.Goals as goal

pub returns : goal.returns
returns c = one_redone
