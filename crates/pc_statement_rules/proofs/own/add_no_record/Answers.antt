use Rattle.pc_statement_rules.proofs.OwnSteps.{record-entries}
use Rattle.pc_statement_rules.proofs.own.add_no_record.Goals as goal

pub returns : goal.returns
returns c = λ t ty same h. record-entries _ t _ ty _ _ _ same h c.is_no_record.ensures c.in_ok-add_note_if.ensures
