use Rattle.pc_use_laws.proofs.PlaceLemmas.{own-place-law}
use Rattle.pc_use_laws.proofs.laws.places_of_a_block_are_its_routines_own.Goals as goal

pub returns : goal.returns
returns c = own-place-law
