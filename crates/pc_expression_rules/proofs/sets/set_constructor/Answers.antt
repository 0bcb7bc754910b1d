use Rattle.std.proofs.Common.{[], ◌∷◌, ap, ◌∙◌, sym, subst}
use Rattle.pc_rules.specs.Attributes.{kids_below}
use Rattle.pc_rules.specs.SetConstructors as rule
use Rattle.pc_facts.specs.Shows.{AllShow}
use Rattle.pc_expression_rules.specs.Members.{ShowsOrdinal, holes_in}
use Rattle.pc_expression_rules.proofs.OperatorSteps.{or-false, unknown-same}
use Rattle.pc_expression_rules.proofs.ConstantSteps.{kid-and-note}
use Rattle.pc_expression_rules.proofs.MemberSteps.{holes-shown, known-shown}
use Rattle.pc_expression_rules.proofs.sets.set_constructor.Goals as goal

pub returns : goal.returns
returns c = λ k w m t h on hole.
    let vs = rule.member_values (kids_below m) in
    let none = subst (λ xs. AllShow (ShowsOrdinal k.table) xs []) (sym c.new-values.ensures.items) tt in
    let shown = c.in_ok-below.ensures.types k [] (kids_below m) t none h in
    let of = c.members_type-of.ensures k vs t (subst (λ xs. AllShow (ShowsOrdinal k.table) xs vs) (sym c.as_slice-3.ensures.value) shown) in
    let e1 = known-shown k _ _ _ vs _ t c.as_slice-2.ensures.value shown c.are_known-known.ensures in
    let e2 = unknown-same _ _ _ of in
    let e3 = c.is_unknown.ensures in
    let e4 = c.both.ensures in
    c.expression.ensures k w (m ∷ []) _ _
    (or-false m.at.hole ∙ hole ∙ sym (c.has_hole-hole.ensures ∙ ap holes_in c.as_slice.ensures.value ∙ holes-shown k _ (kids_below m) h on))
    (kid-and-note 1 11 _ _ _ _ _ _ _ _ c.new-entries.ensures.items (c.in_ok-below.ensures.entries k (kids_below m) t h) c.in_ok-add_kid.ensures c.in_ok-add_note_if.ensures cc)
    of
