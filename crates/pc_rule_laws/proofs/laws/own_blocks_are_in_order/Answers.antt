use Rattle.pc_rule_laws.specs.OwnBlock.{block-orderly}
use Rattle.pc_rule_laws.proofs.laws.own_blocks_are_in_order.Goals as goal

pub returns : goal.returns
returns c = block-orderly
