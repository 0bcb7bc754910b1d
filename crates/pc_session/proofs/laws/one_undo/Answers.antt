use Rattle.pc_session.proofs.OneSteps.{one_undone}
use Rattle.pc_session.proofs.laws.one_undo.Goals as goal

pub returns : goal.returns
returns c = one_undone
