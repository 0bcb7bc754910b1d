use Rattle.std.proofs.Common.{◌∷◌, [], ◌∙◌, ◌++◌, sym, ap}
use Rattle.std.specs.Prelude.{List, option_map, Bool}
use Rattle.pc_types.specs.Shapes.{Typed, SetType}
use Rattle.pc_types.specs.Rows.{seen}
use Rattle.pc_rules.specs.Attributes.{Entry, at_kid}
use Rattle.pc_rules.specs.Denoters.{typed, defined_here}
use Rattle.pc_rules.specs.Entries.{no_ordinal}
use Rattle.pc_rules.specs.HandedOn.{any_hole, all_defines}
use Rattle.pc_rules.specs.StructuredTypes.{base_too_large}
use Rattle.pc_type_rules.proofs.NodeSteps.{shows-of, shows-as, or-false}
use Rattle.pc_type_rules.proofs.sets.set.Goals as goal

pub returns-clause-shows : goal.returns-clause-shows
returns-clause-shows c = λ k w l a table def pack h.
    let of = shows-of _ _ _ _ _ c.value_type-of.ensures table h.value.type in
    c.denoter.ensures (record k { table = seen c.set_type.new.types }) w (any_hole (a ∷ [])) _ _ (all_defines (a ∷ []))
    (or-false a.at.hole ∙ sym h.hole)
    (c.in_ok-entries.ensures a.as_value.type of ∙ ap (λ (es : List Entry). at_kid 1 (es ++ no_ordinal a.as_value.type ++ base_too_large a.as_value.type)) (ap (λ j. j.entries.items) c.into_value.ensures ∙ h.value.entries))
    (shows-as _ _ _ _ (ap (λ (p : Bool). option_map (λ (t : Typed). typed (SetType (defined_here l) p t.shape)) a.as_value.type) pack) (c.in_ok-whole.ensures.shows (defined_here l) a.as_value.type def of))
