use Rattle.pc_session.proofs.LoadSteps.{StepsOnSymbols-found}
use Rattle.pc_session.proofs.editing.with_text.Goals as goal

pub returns-in-Err-read_or_measure-clause-work : goal.returns-in-Err-read_or_measure-clause-work
returns-in-Err-read_or_measure-clause-work g c =
    let found = c.in-Ok.ensures in
    StepsOnSymbols-found _ _ _ _ _ (rw found.0 at found.1) c.in-Err-read_or_measure.ensures.work

pub returns-in-Ok-put-clause-work : goal.returns-in-Ok-put-clause-work
returns-in-Ok-put-clause-work g c =
    let found = c.in-Ok.ensures in
    StepsOnSymbols-found _ _ _ _ _ (rw found.0 at found.1) c.in-Ok-read_or_measure.ensures.work

pub returns-clause-work : goal.returns-clause-work
returns-clause-work g c =
    let found = c.in-Ok.ensures in
    StepsOnSymbols-found _ _ _ _ _ (rw found.0 at found.1) c.in-Ok-read_or_measure.ensures.work
