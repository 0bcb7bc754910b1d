use Rattle.pc_session.proofs.LoadSteps.{StepsOnSymbols-found}
use Rattle.pc_session.proofs.load.program_of.Goals as goal

pub returns-in-Ok-clause-work : goal.returns-in-Ok-clause-work
returns-in-Ok-clause-work g c =
    let found = c.in_ok-lexed.ensures in
    StepsOnSymbols-found _ _ _ _ _ (rw found.0 at found.1) c.in-Ok.ensures.work

pub returns-clause-work : goal.returns-clause-work
returns-clause-work g c =
    let found = c.in_ok-lexed.ensures in
    StepsOnSymbols-found _ _ _ _ _ (rw found.0 at found.1) c.in-Err.ensures.work
