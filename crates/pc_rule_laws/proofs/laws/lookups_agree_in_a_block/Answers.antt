use Rattle.std.proofs.Common.{◌≡◌, Some}
use Rattle.pc_rule_laws.specs.BlockLaw.{block-agrees}
use Rattle.pc_rule_laws.proofs.laws.lookups_agree_in_a_block.Goals as goal

pub returns : goal.returns
returns c = λ class_at. block-agrees (λ p c. class_at p ≡ Some c)
