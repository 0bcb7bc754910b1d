use Rattle.pc_session.proofs.OneSteps.{one_edit, one_fill}
use Rattle.pc_session.proofs.laws.one_fill.Goals as goal

pub returns : goal.returns
returns c = λ path text. one_edit _ (one_fill c.one_number.ensures.number path text)
