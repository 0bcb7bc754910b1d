use Rattle.pc_decl_laws.proofs.TypeLemmas.{own-type-law}
use Rattle.pc_decl_laws.proofs.laws.types_of_declared_names_are_their_own.Goals as goal

pub returns : goal.returns
returns c = own-type-law
