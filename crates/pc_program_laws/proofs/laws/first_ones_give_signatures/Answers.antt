use Rattle.pc_program_laws.proofs.SignatureLemmas.{signatures-law}
use Rattle.pc_program_laws.proofs.laws.first_ones_give_signatures.Goals as goal

pub returns : goal.returns
returns c = signatures-law
