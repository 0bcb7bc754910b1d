use Rattle.pc_found_laws.proofs.SeenLemmas.{seen-law}
use Rattle.pc_found_laws.proofs.laws.places_see_what_their_part_sees.Goals as goal

pub returns : goal.returns
returns c = seen-law
