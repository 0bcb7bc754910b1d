use Rattle.pc_session.proofs.OneSteps.{one_edit, one_cut}
use Rattle.pc_session.proofs.laws.one_cut.Goals as goal

pub returns : goal.returns
returns c = λ path. one_edit _ (one_cut path)
