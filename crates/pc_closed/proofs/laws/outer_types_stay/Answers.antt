use Rattle.pc_closed.specs.BlockLaws.{outer-law}
use Rattle.pc_closed.proofs.laws.outer_types_stay.Goals as goal

pub returns : goal.returns
returns c = outer-law
