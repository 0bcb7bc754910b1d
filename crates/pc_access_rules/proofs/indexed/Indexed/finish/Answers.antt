use Rattle.std.proofs.Common.{◌∷◌, [], ap, sym, ◌∙◌, subst}
use Rattle.pc_syntax.specs.declared.kind.Kind.TheVariants as kind
use Rattle.pc_rules.specs.Attributes.{kids_below}
use Rattle.pc_facts.specs.Shows.{ShowsType}
use Rattle.pc_access_rules.proofs.TypeSteps.{two-holes, with-packed}
use Rattle.pc_access_rules.proofs.IndexSteps.{all-entries, all-packed, where-shown}
use Rattle.pc_access_rules.proofs.indexed.Indexed.finish.Goals as goal

pub returns : goal.returns
returns c = λ k w a b at s bh.
    let ty = a.at.as_place.type in
    let ns = kids_below b in
    let shows = subst (λ o. ShowsType k.table o ty) (sym c.place_type.ensures) at.place.type in
    with-packed k _ kind.Index w (a ∷ b ∷ []) _ _ _ _
    (all-packed k.table _ ty ns _ _ _ _ _ _ shows c.both-packed.ensures c.is_known.ensures c.either.ensures s.packed at.packed_part)
    (c.component.ensures k w (a ∷ b ∷ []) _ _
    (two-holes _ _ _ _ _ c.either-hole.ensures at.hole (s.hole ∙ sym bh))
    (all-entries ty ns _ _ _ _ _ _ _ _ _ _ s.no_array (ap (λ j. j.entries.items) c.into_place.ensures ∙ at.place.entries) s.entries c.new-own.ensures.items c.in_ok-add_note_if.ensures c.new-entries.ensures.items
    c.in_ok-add_kid.ensures c.in_ok-add_kid-2.ensures c.in_ok-add_kid-3.ensures)
    (where-shown k.table _ _ _ _ _ s.typed s.type c.where_true.ensures))
