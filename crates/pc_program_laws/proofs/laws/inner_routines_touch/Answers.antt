use Rattle.pc_program_laws.proofs.InsideLemmas.{inside-law}
use Rattle.pc_program_laws.proofs.laws.inner_routines_touch.Goals as goal

pub returns : goal.returns
returns c = inside-law
