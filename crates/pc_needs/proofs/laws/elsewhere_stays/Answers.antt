use Rattle.pc_needs.proofs.BodyLemmas.{elsewhere-law}
use Rattle.pc_needs.proofs.laws.elsewhere_stays.Goals as goal

pub returns : goal.returns
returns c = elsewhere-law
