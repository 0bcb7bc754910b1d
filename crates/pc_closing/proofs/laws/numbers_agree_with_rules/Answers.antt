use Rattle.pc_closing.specs.TruthLaws.{truth-law}
use Rattle.pc_closing.proofs.laws.numbers_agree_with_rules.Goals as goal

pub returns : goal.returns
returns c = truth-law
