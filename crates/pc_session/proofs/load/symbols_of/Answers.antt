use Rattle.pc_session.proofs.LoadSteps.{FindsSymbols-unspelled}
use Rattle.pc_session.proofs.load.symbols_of.Goals as goal

pub returns-in-Err : goal.returns-in-Err
returns-in-Err c = rw c.unspelled.ensures (FindsSymbols-unspelled _ _ c.in-Err.ensures.fault)
