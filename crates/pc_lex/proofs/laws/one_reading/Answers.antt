use Rattle.pc_lex.specs.Laws.{Spells-unique, FirstFault-unique, Spells-faultless}
use Rattle.pc_lex.proofs.EachRead.{each_is_read}
use Rattle.pc_lex.proofs.laws.one_reading.Goals as goal

pub returns : goal.returns
returns c = record { each = each_is_read; symbols = Spells-unique; fault = FirstFault-unique; never_both = Spells-faultless }
