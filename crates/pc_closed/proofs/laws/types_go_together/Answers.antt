use Rattle.pc_closed.specs.TogetherLaws.{together-law}
use Rattle.pc_closed.proofs.laws.types_go_together.Goals as goal

pub returns : goal.returns
returns c = together-law
