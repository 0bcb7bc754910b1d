use Rattle.pc_block_laws.proofs.OwnBlockLemmas.{own-law}
use Rattle.pc_block_laws.proofs.laws.known_types_are_own.Goals as goal

pub returns : goal.returns
returns c = own-law
