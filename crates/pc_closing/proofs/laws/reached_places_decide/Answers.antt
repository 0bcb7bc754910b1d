use Rattle.pc_closing.specs.AgreeLaws.{agree-law}
use Rattle.pc_closing.proofs.laws.reached_places_decide.Goals as goal

pub returns : goal.returns
returns c = agree-law
