use Rattle.pc_program_laws.proofs.TouchLemmas.{body-touches-law}
use Rattle.pc_program_laws.proofs.laws.bodies_touch.Goals as goal

pub returns : goal.returns
returns c = body-touches-law
