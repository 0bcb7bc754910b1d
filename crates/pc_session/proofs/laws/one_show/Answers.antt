use Rattle.pc_session.proofs.OneSteps.{one_shown}
use Rattle.pc_session.proofs.laws.one_show.Goals as goal

pub returns : goal.returns
returns c = one_shown
