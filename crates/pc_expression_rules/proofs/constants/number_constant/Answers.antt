use Rattle.std.proofs.Common.{refl, Some}
use Rattle.pc_expression_rules.proofs.ConstantSteps.{none-noted}
use Rattle.pc_expression_rules.proofs.ResultSteps.{noted}
use Rattle.pc_expression_rules.proofs.constants.number_constant.Goals as goal

pub returns : goal.returns
returns c = λ k w t.
    c.constant_node.ensures k w _ _ (Some _) refl
    (noted _ _ _ _ _ _ c.new-entries.ensures.items c.in_ok-add_note_if.ensures c.is_too_large.ensures)
    (λ _ none. c.numeral_value-value.ensures k t (none-noted _ _ _ none))
