use Rattle.pc_closed.specs.ClosesLaws.{closes-law}
use Rattle.pc_closed.proofs.laws.blocks_hand_on.Goals as goal

pub returns : goal.returns
returns c = closes-law
