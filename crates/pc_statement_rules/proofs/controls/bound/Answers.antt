use Rattle.pc_statement_rules.proofs.ControlSteps.{bound-shown}
use Rattle.pc_statement_rules.proofs.controls.bound.Goals as goal

pub returns : goal.returns
returns c = λ t d b same g h.
    bound-shown _ t _ _ d b _ _ _ _ _ same g h c.new-entries.ensures.items c.is_no_ordinal.ensures c.is_apart.ensures c.in_ok-add_note_if.ensures c.in_ok-add_note_if-2.ensures
