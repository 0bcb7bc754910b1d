use Rattle.pc_needs.proofs.PlacesApart.{places-law}
use Rattle.pc_needs.proofs.laws.places_name_one.Goals as goal

pub returns : goal.returns
returns c = places-law
