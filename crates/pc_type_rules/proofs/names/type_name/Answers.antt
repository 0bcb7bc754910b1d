use Rattle.std.proofs.Common.{◌∷◌, [], ◌∙◌, sym}
use Rattle.pc_syntax.specs.Words.{lowered}
use Rattle.pc_rules.specs.Denoters.{type_name_entries, type_of_found}
use Rattle.pc_rules.specs.HandedOn.{any_hole, all_defines}
use Rattle.pc_type_rules.proofs.NodeSteps.{shows-in, or-false, one-kid}
use Rattle.pc_type_rules.proofs.names.type_name.Goals as goal

pub returns : goal.returns
returns c = λ k w a table h entries.
    c.denoter.ensures k w (any_hole (a ∷ [])) _ (type_of_found a.at.found) (all_defines (a ∷ []))
    (or-false a.at.hole ∙ h.is_hole ∙ sym h.hole)
    (one-kid (type_name_entries a) _ _ _ c.new-entries.ensures.items entries c.in_ok-add_kid.ensures)
    (shows-in _ _ _ _ (sym table) (c.type_of_sighting-of.ensures k (lowered a.at.word) a.at.found table h.found))
