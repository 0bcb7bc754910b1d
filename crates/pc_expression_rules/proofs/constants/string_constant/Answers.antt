use Rattle.std.proofs.Common.{refl, subst, Some}
use Rattle.pc_rules.specs.Constants.{text_value}
use Rattle.pc_facts.specs.Shows.{ShowsValue}
use Rattle.pc_expression_rules.proofs.constants.string_constant.Goals as goal

pub returns-clause-shown : goal.returns-clause-shown
returns-clause-shown c = λ k w t same.
    c.constant_node.ensures k w _ _ (Some _) refl c.new.ensures.items
    (λ _ _. subst (λ cs. ShowsValue k c.in_ok-value.value (text_value cs)) c.in_ok-chars.ensures (c.in_ok-value.ensures.shown k t same))
