use Rattle.pc_lex.specs.Laws.{tables_same, marks_read}
use Rattle.pc_lex.proofs.laws.same_tables.Goals as goal

pub returns : goal.returns
returns c = record { spelled = tables_same; read = marks_read }
