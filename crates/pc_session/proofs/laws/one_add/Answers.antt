use Rattle.pc_session.proofs.OneSteps.{one_edit, one_add}
use Rattle.pc_session.proofs.laws.one_add.Goals as goal

pub returns : goal.returns
returns c = λ path k name. one_edit _ (one_add path k name)
