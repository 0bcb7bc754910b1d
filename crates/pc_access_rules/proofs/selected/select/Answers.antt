use Rattle.std.proofs.Common.{◌∷◌, [], ap, sym, ◌∙◌, subst}
use Rattle.pc_types.specs.Rows.{seen}
use Rattle.pc_syntax.specs.declared.kind.Kind.TheVariants as kind
use Rattle.pc_facts.specs.Shows.{ShowsType}
use Rattle.pc_access_rules.proofs.TypeSteps.{two-holes, with-packed}
use Rattle.pc_access_rules.proofs.SelectSteps.{entries-of, type-of, packed-of}
use Rattle.pc_access_rules.proofs.selected.select.Goals as goal

pub returns : goal.returns
returns c = λ k w a b e at bh bk bw.
    let t = seen c.args.types.now in
    let ty = a.at.as_place.type in
    let shows = subst (λ o. ShowsType k.table o ty) (sym c.place_type-of.ensures) at.place.type in
    with-packed k _ kind.Select w (a ∷ b ∷ []) _ _ _ _
    (packed-of k.table t _ ty _ _ _ _ _ _ e shows c.both-packed.ensures c.is_known.ensures c.either.ensures c.packed_type.ensures at.packed_part)
    (c.component.ensures k w (a ∷ b ∷ []) _ _
    (two-holes _ _ _ _ _ c.either-holes.ensures at.hole (sym bh))
    (entries-of k.table t _ ty b _ _ _ _ _ _ _ _ _ _ _ _ e shows bk bw (ap (λ j. j.entries.items) c.into_place.ensures ∙ at.place.entries) c.in_ok-add_note_if.ensures c.is_no_record.ensures
    c.new-missed.ensures.items c.in_ok-add_note_if-2.ensures c.lacks_field.ensures c.new-entries.ensures.items c.in_ok-add_kid.ensures c.in_ok-add_kid-2.ensures)
    (type-of k.table t _ _ ty _ _ e shows bw c.field_type.ensures.shape c.field_type.ensures.there))
