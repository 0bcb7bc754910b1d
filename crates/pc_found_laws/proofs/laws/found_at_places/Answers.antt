use Rattle.pc_found_laws.proofs.FoundLemmas.{found-law}
use Rattle.pc_found_laws.proofs.laws.found_at_places.Goals as goal

pub returns : goal.returns
returns c = found-law
