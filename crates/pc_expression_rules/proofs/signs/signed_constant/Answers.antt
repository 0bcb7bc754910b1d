use Rattle.std.proofs.Common.{sym, ap, ◌∙◌}
use Rattle.pc_expression_rules.proofs.ConstantSteps.{kid-and-note}
use Rattle.pc_expression_rules.proofs.signs.signed_constant.Goals as goal

pub returns : goal.returns
returns c = λ k w n t l.
    c.constant_node.ensures k w _ _ _ (sym l.hole)
    (kid-and-note 1 6 _ _ _ _ _ _ _ _ c.new-entries.ensures.items (ap (λ j. j.entries.items) c.into_value.ensures ∙ l.value.entries)
    c.in_ok-add_kid.ensures c.in_ok-add_note_if.ensures (c.is_no_number-refused.ensures k _ t l.constant))
    (λ _ _. c.in_ok-value.ensures k _ l.constant)
