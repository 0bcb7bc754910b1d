use Rattle.pc_session.specs.LoadingLaws.{one_written, one_dropped, one_fault, written_fits, written_is_faultless, misfit_is_faultless}
use Rattle.pc_session.proofs.laws.one_answer.Goals as goal

pub returns-clause-written : goal.returns-clause-written
returns-clause-written c = one_written

pub returns-clause-dropped : goal.returns-clause-dropped
returns-clause-dropped c = one_dropped

pub returns-clause-fault : goal.returns-clause-fault
returns-clause-fault c = one_fault

pub returns-clause-fits : goal.returns-clause-fits
returns-clause-fits c = written_fits

pub returns-clause-faultless : goal.returns-clause-faultless
returns-clause-faultless c = written_is_faultless

pub returns-clause-misfit : goal.returns-clause-misfit
returns-clause-misfit c = misfit_is_faultless
