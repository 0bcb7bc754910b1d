use Rattle.pc_use_laws.proofs.FieldLemmas.{fields-law}
use Rattle.pc_use_laws.proofs.laws.fields_are_no_declared_names.Goals as goal

pub returns : goal.returns
returns c = fields-law
