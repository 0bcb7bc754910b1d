use Rattle.pc_closed.specs.WalkLaws.{reached-law}
use Rattle.pc_closed.proofs.laws.all_is_reached.Goals as goal

pub returns : goal.returns
returns c = reached-law
