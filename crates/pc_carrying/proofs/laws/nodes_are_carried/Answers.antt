use Rattle.pc_carrying.specs.StartLaws.{node-law}
use Rattle.pc_carrying.proofs.laws.nodes_are_carried.Goals as goal

pub returns : goal.returns
returns c = node-law
