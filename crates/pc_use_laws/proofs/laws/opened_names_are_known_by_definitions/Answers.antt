use Rattle.pc_use_laws.proofs.RecordNameLemmas.{records-law}
use Rattle.pc_use_laws.proofs.laws.opened_names_are_known_by_definitions.Goals as goal

pub returns : goal.returns
returns c = records-law
