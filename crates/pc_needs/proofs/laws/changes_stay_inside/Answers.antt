use Rattle.pc_needs.proofs.ChangeLemmas.{change-law}
use Rattle.pc_needs.proofs.laws.changes_stay_inside.Goals as goal

pub returns : goal.returns
returns c = change-law
