use Rattle.pc_pointers.specs.PointerLaws.{good-marks}
use Rattle.pc_pointers.proofs.laws.pointers_agree.Goals as goal

pub returns : goal.returns
returns c = good-marks
