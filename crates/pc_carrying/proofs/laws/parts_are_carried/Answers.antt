use Rattle.pc_carrying.specs.StartLaws.{part-law}
use Rattle.pc_carrying.proofs.laws.parts_are_carried.Goals as goal

pub returns : goal.returns
returns c = part-law
