use Rattle.pc_program_laws.proofs.AlikeLemmas.{unsigned-law}
use Rattle.pc_program_laws.proofs.laws.declarations_see_no_signature.Goals as goal

pub returns : goal.returns
returns c = unsigned-law
