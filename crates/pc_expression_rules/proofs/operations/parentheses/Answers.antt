use Rattle.std.proofs.Common.{◌∷◌, [], ◌∙◌, sym, ap, refl}
use Rattle.pc_expression_rules.proofs.OperatorSteps.{or-false, kid-entries}
use Rattle.pc_expression_rules.proofs.ResultSteps.{moved}
use Rattle.pc_expression_rules.proofs.operations.parentheses.Goals as goal

pub returns : goal.returns
returns c = λ k w a l.
    c.expression.ensures k w (a ∷ []) _ _
    (or-false a.at.hole ∙ sym l.hole)
    (kid-entries a _ _ _ c.new-entries.ensures.items (ap (λ j. j.entries.items) c.into_value.ensures ∙ l.value.entries) c.in_ok-add_kid.ensures)
    (moved _ _ _ _ _ refl (sym c.value_type-of.ensures) l.value.type)
