use Rattle.pc_found_laws.proofs.TypeLemmas.{type-law}
use Rattle.pc_found_laws.proofs.laws.types_come_from_what_is_found.Goals as goal

pub returns : goal.returns
returns c = type-law
