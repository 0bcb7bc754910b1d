use Rattle.pc_statement_rules.proofs.OwnSteps.{ordinal-entries}
use Rattle.pc_statement_rules.proofs.own.no_ordinal.Goals as goal

pub returns : goal.returns
returns c = λ t ty same h. ordinal-entries _ t _ ty _ _ _ same h c.new-entries.ensures.items c.is_no_ordinal.ensures c.in_ok-add_note_if.ensures
