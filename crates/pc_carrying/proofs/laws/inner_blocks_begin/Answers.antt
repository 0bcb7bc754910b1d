use Rattle.pc_carrying.specs.ParameterLaws.{inside-law}
use Rattle.pc_carrying.proofs.laws.inner_blocks_begin.Goals as goal

pub returns : goal.returns
returns c = inside-law
