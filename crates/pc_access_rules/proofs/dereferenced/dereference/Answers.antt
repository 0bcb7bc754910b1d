use Rattle.std.proofs.Common.{◌∷◌, [], ap, sym, ◌∙◌, subst}
use Rattle.pc_types.specs.Rows.{seen}
use Rattle.pc_facts.specs.Shows.{ShowsType}
use Rattle.pc_access_rules.proofs.TypeSteps.{or-false}
use Rattle.pc_access_rules.proofs.PointerSteps.{entries-behind, type-behind}
use Rattle.pc_access_rules.proofs.dereferenced.dereference.Goals as goal

pub returns : goal.returns
returns c = λ k targets w a e told leads at.
    let t = seen c.args.types.now in
    let ty = a.at.as_place.type in
    let shows = subst (λ o. ShowsType k.table o ty) (sym c.place_type-of.ensures) at.place.type in
    c.component.ensures k w (a ∷ []) _ _
    (or-false a.at.hole ∙ sym at.hole)
    (entries-behind k.table t _ ty _ _ _ _ _ _ e shows (ap (λ j. j.entries.items) c.into_place.ensures ∙ at.place.entries) c.in_ok-add_note_if.ensures c.is_no_pointer.ensures c.new-entries.ensures.items c.in_ok-add_kid.ensures)
    (type-behind targets k.table t _ _ ty e shows leads told c.target_of.ensures.shape c.target_of.ensures.there)
