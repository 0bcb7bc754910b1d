use Rattle.std.proofs.Common.{◌∷◌, [], ◌∙◌, ◌++◌, ap, refl}
use Rattle.std.specs.Prelude.{Bool}
use Rattle.std.specs.Option.{option_and_then}
use Rattle.pc_types.specs.Rows.{seen}
use Rattle.pc_rules.specs.Attributes.{at_kid, each_kid, kids_below}
use Rattle.pc_rules.specs.Denoters.{defined_here}
use Rattle.pc_rules.specs.HandedOn.{any_hole, all_defines}
use Rattle.pc_rules.specs.StructuredTypes as rule
use Rattle.pc_type_rules.proofs.NodeSteps.{shows-of, shows-as, two-holes}
use Rattle.pc_type_rules.proofs.ArraySteps.{all-extend, extends-from, array-entries, all-in}
use Rattle.pc_type_rules.proofs.arrays.array.Goals as goal

pub returns-clause-shows : goal.returns-clause-shows
returns-clause-shows c = λ k w l a b table def pack all hole h.
    let g = extends-from k.table (seen c.args.types.now) (seen c.arrays.new.types) table c.in_ok-of.ensures.extended in
    c.in_ok-facts.ensures (record k { table = seen c.arrays.new.types }) w (any_hole (a ∷ b ∷ [])) (at_kid 1 (each_kid rule.index_type_entries 1 (kids_below a)) ++ at_kid 2 b.as_value.entries)
    (option_and_then (rule.arrays (defined_here l) 1 l.packed (kids_below a)) b.as_value.type) (all_defines (a ∷ b ∷ [])) refl
    (two-holes a.at.hole b.at.hole _ _ _ hole h.hole c.either-all.ensures)
    (array-entries _ _ _ _ _ _ _ c.new-entries.ensures.items
    (c.in_ok-below.ensures (record k { table = seen c.arrays.new.types }) (kids_below a) refl (all-extend k (seen c.arrays.new.types) c.args.indexes.items (kids_below a) g all))
    (ap (λ j. j.entries.items) c.into_value.ensures ∙ h.value.entries) c.in_ok-add_kid.ensures c.in_ok-add_kid-2.ensures)
    (shows-as _ _ _ _ (ap (λ (p : Bool). option_and_then (rule.arrays (defined_here l) 1 p (kids_below a)) b.as_value.type) pack)
    (c.in_ok-of.ensures.shows k (defined_here l) (kids_below a) b.as_value.type table def (all-in k _ _ (kids_below a) c.deref.ensures.value all) (shows-of _ _ _ _ _ c.value_type.ensures table h.value.type)))
