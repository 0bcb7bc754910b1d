use Rattle.pc_decl_laws.proofs.DeclarerLemmas.{kinds-law}
use Rattle.pc_decl_laws.proofs.laws.kinds_come_with_declared_names.Goals as goal

pub returns : goal.returns
returns c = kinds-law
