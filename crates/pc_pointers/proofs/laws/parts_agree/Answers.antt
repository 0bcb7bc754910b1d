use Rattle.pc_pointers.specs.PointerLaws.{parts-agree}
use Rattle.pc_pointers.proofs.laws.parts_agree.Goals as goal

pub returns : goal.returns
returns c = parts-agree
