use Rattle.std.proofs.Common.{[], ◌∷◌, ap, ◌∙◌, sym}
use Rattle.pc_statement_rules.proofs.OwnSteps.{shown-at, two-holes, assignment-entries}
use Rattle.pc_statement_rules.proofs.statements.assignment.Goals as goal

pub returns : goal.returns
returns c = λ k w a b same g h.
    c.statement.ensures k w (a ∷ b ∷ []) _ a.variable
    (sym (two-holes a b _ _ _ g.hole h.hole c.either-hole.ensures))
    (assignment-entries _ k.table _ _ a b _ _ _ _ _ _ _ same
    (ap (λ j. j.entries.items) c.into_target-to.ensures ∙ g.target.entries) (ap (λ j. j.entries.items) c.into_value-from.ensures ∙ h.value.entries)
    (shown-at _ _ _ _ (ap (λ j. j.of) c.into_target-to.ensures) g.target.type) (shown-at _ _ _ _ (ap (λ j. j.of) c.into_value-from.ensures) h.value.type)
    c.is_unassignable-unfit.ensures c.new-entries.ensures.items c.in_ok-add_kid.ensures c.in_ok-add_kid-2.ensures c.in_ok-add_note_if.ensures)
