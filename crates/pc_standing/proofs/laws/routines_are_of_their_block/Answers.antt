use Rattle.pc_standing.specs.StartLaws.{own-law}
use Rattle.pc_standing.proofs.laws.routines_are_of_their_block.Goals as goal

pub returns : goal.returns
returns c = own-law
