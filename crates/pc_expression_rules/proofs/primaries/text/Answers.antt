use Rattle.std.proofs.Common.{[], refl, ap, ◌∙◌}
use Rattle.pc_rules.specs.Constants.{text_value}
use Rattle.pc_expression_rules.proofs.ResultSteps.{known}
use Rattle.pc_expression_rules.proofs.primaries.text.Goals as goal

pub returns : goal.returns
returns c = λ k w t.
    c.expression.ensures k w [] _ _ refl c.new.ensures.items
    (known _ _ _ _ t (c.in_ok-of.ensures.shape ∙ ap (λ cs. (text_value cs).type) (c.as_slice.ensures.value ∙ c.in_ok-chars.ensures)) c.in_ok-of.ensures.there)
