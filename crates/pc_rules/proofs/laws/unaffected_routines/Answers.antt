use Rattle.pc_rules.specs.UnaffectedLaws.{unaffected}
use Rattle.pc_rules.proofs.laws.unaffected_routines.Goals as goal

pub returns : goal.returns
returns c = unaffected
