use Rattle.pc_targets.proofs.HidingLemmas.{hiding-law}
use Rattle.pc_targets.proofs.laws.blocks_see_the_same.Goals as goal

pub returns : goal.returns
returns c = hiding-law
