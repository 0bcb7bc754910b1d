use Rattle.pc_closing.specs.KeptLaws.{kept-law}
use Rattle.pc_closing.proofs.laws.flags_stay_right.Goals as goal

pub returns : goal.returns
returns c = kept-law
