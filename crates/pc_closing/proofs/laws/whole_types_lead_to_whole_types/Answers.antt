use Rattle.pc_closing.specs.WholeLaws.{whole-law}
use Rattle.pc_closing.proofs.laws.whole_types_lead_to_whole_types.Goals as goal

pub returns : goal.returns
returns c = whole-law
