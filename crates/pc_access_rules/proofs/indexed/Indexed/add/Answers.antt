use Rattle.std.proofs.Common.{ap, sym, ◌∙◌, subst}
use Rattle.pc_types.specs.Rows.{seen}
use Rattle.pc_facts.specs.Shows.{ShowsType}
use Rattle.pc_access_rules.proofs.IndexSteps.{type-more, entries-more, next-more, hole-more, typed-more, no_array-more, packed-more}
use Rattle.pc_access_rules.proofs.indexed.Indexed.add.Goals as goal

pub returns : goal.returns
returns c = λ k t ns n e s h.
    let table = seen c.args.types.now in
    let self = c.args.self.now in
    let value = subst (λ o. ShowsType k.table o n.as_value.type) (sym c.value_type.ensures) h.value.type in
    let again = subst (λ o. ShowsType k.table o n.as_value.type) (sym c.value_type-2.ensures) h.value.type in
    record {
      type = type-more k.table table self.of _ t ns n e s.type c.component_of-self.ensures.shape c.component_of-self.ensures.there;
      entries = entries-more k.table table self.of _ _ t ns n self.next _ _ _ _ _ e s.type s.next s.entries c.index_of.ensures.shape again c.is_unassignable-misfit.ensures
          (ap (λ j. j.entries.items) c.into_value.ensures ∙ h.value.entries) c.in_ok-add_note_if.ensures c.in_ok-add_kid.ensures;
      next = next-more _ self.next ns n s.next c.in_ok-self.ensures;
      hole = hole-more _ _ _ ns n s.hole h.hole c.either-self.ensures;
      typed = typed-more k.table _ _ _ _ ns n value s.typed c.is_known.ensures c.both-self.ensures;
      no_array = no_array-more k.table table self.of t _ _ _ ns n e s.type s.no_array c.is_no_array.ensures c.either-self-2.ensures;
      packed = packed-more k.table table self.of t _ _ _ ns n e s.type s.packed c.is_packed_array.ensures c.either-self-3.ensures;
    }
