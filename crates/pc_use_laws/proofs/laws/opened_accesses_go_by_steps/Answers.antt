use Rattle.pc_use_laws.proofs.FrontLemmas.{opened-law}
use Rattle.pc_use_laws.proofs.laws.opened_accesses_go_by_steps.Goals as goal

pub returns : goal.returns
returns c = opened-law
