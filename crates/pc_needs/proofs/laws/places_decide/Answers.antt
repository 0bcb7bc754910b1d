use Rattle.pc_needs.proofs.BodyLemmas.{placed-law}
use Rattle.pc_needs.proofs.laws.places_decide.Goals as goal

pub returns : goal.returns
returns c = placed-law
