use Rattle.std.proofs.Common.{[], ◌∷◌, ap, ◌∙◌, sym, ◌++◌, ◌||◌}
use Rattle.pc_syntax.specs.Sorts.{is_hole}
use Rattle.pc_rules.specs.Attributes.{judged}
use Rattle.pc_rules.specs.ForStatements.{control_entries, bound_entries}
use Rattle.pc_rules.specs.Variables.{variable_type, variable_entries}
use Rattle.pc_statement_rules.proofs.OwnSteps.{shown-at}
use Rattle.pc_statement_rules.proofs.ControlSteps.{for-hole, for-entries}
use Rattle.pc_statement_rules.proofs.loops.for_statement.Goals as goal

pub returns : goal.returns
returns c = λ k w l n a b s same word h inside named changed owner f g i.
    let control = c.in_ok-control.ensures k l.owner n same word h named owner in
    let entries = ap (λ x. variable_entries n ++ control_entries l.owner n x) (c.either-changed.ensures ∙ ap (λ b. b || c.args.changed_by_body) inside ∙ ap (λ b. n.at.changed || b) changed) in
    let shown = ap (λ es. judged (is_hole n.at.kind) es (variable_type n.at.found)) entries in
    c.statement.ensures k w (n ∷ a ∷ b ∷ s ∷ []) _ _
    (sym (for-hole n a b s _ _ _ _ _ (h.hole ∙ sym h.is_hole) f.hole g.hole i.hole c.any_of_four-hole.ensures))
    (for-entries a b s _ _ _ _ _ _ _ _ _ _ _ _ c.new-entries.ensures.items
    (ap (λ j. j.entries.items) c.into_value.ensures ∙ f.value.entries) (ap (λ j. j.entries.items) c.into_value-2.ensures ∙ g.value.entries) (ap (λ j. j.entries.items) c.into_value-3.ensures ∙ i.value.entries)
    (c.in_ok-at_first.ensures k.table _ _ same control.type (shown-at _ _ _ _ c.value_type.ensures f.value.type) ∙ ap (λ j. bound_entries j.type a.as_value.type) shown)
    (c.in_ok-at_last.ensures k.table _ _ same control.type (shown-at _ _ _ _ c.value_type-2.ensures g.value.type) ∙ ap (λ j. bound_entries j.type b.as_value.type) shown)
    (control.entries ∙ ap (λ j. j.entries) shown)
    c.in_ok-add_kids.ensures c.in_ok-add_own.ensures)
