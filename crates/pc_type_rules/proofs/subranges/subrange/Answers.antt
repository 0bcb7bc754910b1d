use Rattle.std.proofs.Common.{◌∷◌, [], ◌∙◌, ap}
use Rattle.std.specs.Prelude.{codes}
use Rattle.pc_types.specs.Rows.{seen}
use Rattle.pc_rules.specs.Denoters.{defined_here, has_bad_bounds}
use Rattle.pc_rules.specs.HandedOn.{any_hole, all_defines}
use Rattle.pc_type_rules.proofs.NodeSteps.{two-holes, two-kids-noted}
use Rattle.pc_type_rules.proofs.subranges.subrange.Goals as goal

pub returns-clause-shows : goal.returns-clause-shows
returns-clause-shows c = λ k w l a b table def x y.
    c.denoter.ensures (record k { table = seen c.subrange_between.new.types }) w (any_hole (a ∷ b ∷ [])) _ _ (all_defines (a ∷ b ∷ []))
    (two-holes a.at.hole b.at.hole _ _ _ x.hole y.hole c.either-hole.ensures)
    (two-kids-noted a.as_value.entries b.as_value.entries _ _ _ _ _ _ _ (has_bad_bounds a.constant b.constant) 7 (codes "bad bounds") c.new-entries.ensures.items (ap (λ j. j.entries.items) c.into_value.ensures ∙ x.value.entries)
    (ap (λ j. j.entries.items) c.into_value-2.ensures ∙ y.value.entries) c.in_ok-add_kid.ensures c.in_ok-add_kid-2.ensures c.in_ok-add_note_if.ensures
    (c.has_bad_bounds-bad.ensures k a.constant b.constant table x.constant y.constant))
    (c.in_ok-of.ensures.shows k (defined_here l) a.constant b.constant table def x.constant y.constant)
