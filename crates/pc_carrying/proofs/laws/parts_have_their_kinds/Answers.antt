use Rattle.pc_carrying.specs.KindLaws.{kind-law}
use Rattle.pc_carrying.proofs.laws.parts_have_their_kinds.Goals as goal

pub returns : goal.returns
returns c = kind-law
