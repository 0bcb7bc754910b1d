use Rattle.std.proofs.Common.{ap, ◌∙◌, refl}
use Rattle.pc_statement_rules.proofs.OwnSteps.{shown-at}
use Rattle.pc_statement_rules.proofs.ControlSteps.{is_local-shown, variable_type-shown, control-entries, judged-shown}
use Rattle.pc_statement_rules.proofs.controls.control_judged.Goals as goal

pub returns : goal.returns
returns c = λ k o n same word h named owner.
    judged-shown k.table c.of_parts.result _ _ _ _ _ _ (ap (λ v. v.items) c.of_parts.ensures.entries) c.of_parts.ensures.known h.hole
    (control-entries o n _ _ _ _ _ _ _ h.hole (c.is_local-local.ensures ∙ is_local-shown k _ _ o _ _ _ same owner h.found) refl word named
    c.in_ok-add_control.ensures)
    (shown-at _ _ _ _ c.variable_type.ensures (variable_type-shown k _ _ _ h.found))
