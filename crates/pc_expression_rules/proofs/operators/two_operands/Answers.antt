use Rattle.std.proofs.Common.{◌∷◌, [], ◌∙◌, sym, ap, ◌||◌}
use Rattle.pc_expression_rules.proofs.OperatorSteps.{known-same, unknown-same, or-false, two-entries}
use Rattle.pc_expression_rules.proofs.operators.two_operands.Goals as goal

pub returns : goal.returns
returns c = λ k w a b ty l r t.
    let one = known-same _ _ _ l.value.type in
    let other = known-same _ _ _ r.value.type in
    let none = unknown-same _ _ _ t in
    let e1 = c.both.ensures in
    let e2 = c.both-known.ensures in
    let e3 = c.is_known.ensures in
    let e4 = c.is_known-2.ensures in
    let e5 = c.value_type.ensures in
    let e6 = c.value_type-2.ensures in
    let e7 = c.is_unknown.ensures in
    c.expression.ensures k w (a ∷ b ∷ []) _ ty
    (ap (λ x. a.at.hole || x) (or-false b.at.hole) ∙ sym (c.either-hole.ensures ∙ ap (λ x. x || c.args.right.hole) l.hole ∙ ap (λ x. a.at.hole || x) r.hole))
    (two-entries a b _ _ _ _ _ _ _ _ c.new-entries.ensures.items (ap (λ j. j.entries.items) c.into_value.ensures ∙ l.value.entries) (ap (λ j. j.entries.items) c.into_value-2.ensures ∙ r.value.entries)
    c.in_ok-add_kid.ensures c.in_ok-add_kid-2.ensures c.in_ok-add_note_if.ensures cc)
    t
