use Rattle.pc_needs.proofs.NeedsLemmas.{needs-law}
use Rattle.pc_needs.proofs.laws.needs_decide.Goals as goal

pub returns : goal.returns
returns c = needs-law
