use Rattle.pc_session.proofs.OneSteps.{one_edit, one_put}
use Rattle.pc_session.proofs.laws.one_put.Goals as goal

pub returns : goal.returns
returns c = λ path name. one_edit _ (one_put path name)
