use Rattle.std.proofs.Common.{◌∷◌, [], ◌∙◌, sym, ap}
use Rattle.pc_expression_rules.proofs.OperatorSteps.{known-same, unknown-same, or-false, one-entries}
use Rattle.pc_expression_rules.proofs.operators.one_operand.Goals as goal

pub returns : goal.returns
returns c = λ k w a ty l t.
    let one = known-same _ _ _ l.value.type in
    let none = unknown-same _ _ _ t in
    let e1 = c.both.ensures in
    let e2 = c.is_known-known.ensures in
    let e3 = c.value_type.ensures in
    let e4 = c.is_unknown.ensures in
    c.expression.ensures k w (a ∷ []) _ ty
    (or-false a.at.hole ∙ sym l.hole)
    (one-entries a _ _ _ _ _ _ c.new-entries.ensures.items (ap (λ j. j.entries.items) c.into_value.ensures ∙ l.value.entries) c.in_ok-add_kid.ensures c.in_ok-add_note_if.ensures cc)
    t
