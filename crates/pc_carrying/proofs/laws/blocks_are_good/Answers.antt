use Rattle.pc_carrying.specs.StartLaws.{block-law}
use Rattle.pc_carrying.proofs.laws.blocks_are_good.Goals as goal

pub returns : goal.returns
returns c = block-law
