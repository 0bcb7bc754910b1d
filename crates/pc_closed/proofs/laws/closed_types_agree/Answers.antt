use Rattle.pc_closed.specs.BlockLaws.{closed-law}
use Rattle.pc_closed.proofs.laws.closed_types_agree.Goals as goal

pub returns : goal.returns
returns c = closed-law
