use Rattle.std.proofs.Common.{◌∷◌, [], ◌∙◌, ◌++◌, ap, refl}
use Rattle.std.specs.Prelude.{List, option_map, Bool}
use Rattle.pc_types.specs.Rows.{seen}
use Rattle.pc_rules.specs.Attributes.{Entry, at_kid, kids_below}
use Rattle.pc_rules.specs.Denoters.{defined_here}
use Rattle.pc_rules.specs.HandedOn.{any_hole, all_defines}
use Rattle.pc_rules.specs.StructuredTypes.{field_repeats, row_of}
use Rattle.pc_type_rules.proofs.NodeSteps.{shows-as, or-false}
use Rattle.pc_type_rules.proofs.RecordSteps.{record_in}
use Rattle.pc_type_rules.proofs.records.record_type.Goals as goal

pub returns-clause-shows : goal.returns-clause-shows
returns-clause-shows c = λ k w l a def pack h hole below twice.
    c.in_ok-facts.ensures (record k { table = seen c.record_of.new.types }) w (any_hole (a ∷ [])) (at_kid 1 a.as_value.entries ++ at_kid 1 (field_repeats [] 1 (kids_below a))) (option_map (record_in (defined_here l) l.packed) (row_of (kids_below a))) (all_defines (a ∷ [])) refl
    (or-false a.at.hole ∙ hole)
    (c.in_ok-add_kid-2.ensures ∙ ap (λ (es : List Entry). es ++ at_kid 1 c.args.twice.items) (c.in_ok-add_kid.ensures ∙ ap (λ (es : List Entry). es ++ at_kid 1 c.args.below.items) c.new-entries.ensures.items)
    ∙ ap (λ (es : List Entry). at_kid 1 es ++ at_kid 1 c.args.twice.items) below ∙ ap (λ (es : List Entry). at_kid 1 a.as_value.entries ++ at_kid 1 es) twice)
    (shows-as _ _ _ _ (ap (λ (p : Bool). option_map (record_in (defined_here l) p) (row_of (kids_below a))) pack) (c.in_ok-whole.ensures.shows (defined_here l) (kids_below a) def h))
