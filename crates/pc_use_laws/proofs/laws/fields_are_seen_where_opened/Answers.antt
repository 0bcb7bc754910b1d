use Rattle.pc_use_laws.proofs.ComponentLemmas.{seen-fields-law}
use Rattle.pc_use_laws.proofs.laws.fields_are_seen_where_opened.Goals as goal

pub returns : goal.returns
returns c = seen-fields-law
