use Rattle.std.proofs.Common.{◌∷◌, [], ◌∙◌, sym, ap, refl}
use Rattle.pc_rules.specs.HandedOn.{any_hole, all_defines}
use Rattle.pc_type_rules.proofs.NodeSteps.{shows-of, or-false, one-kid}
use Rattle.pc_type_rules.proofs.simple.packed.Goals as goal

pub returns : goal.returns
returns c = λ k w a h.
    c.denoter.ensures k w (any_hole (a ∷ [])) _ a.as_value.type (all_defines (a ∷ []))
    (or-false a.at.hole ∙ sym h.hole)
    (one-kid a.as_value.entries _ _ _ c.new-entries.ensures.items (ap (λ j. j.entries.items) c.into_value.ensures ∙ h.value.entries) c.in_ok-add_kid.ensures)
    (shows-of _ _ _ _ _ c.value_type-of.ensures refl h.value.type)
