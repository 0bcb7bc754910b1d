use Rattle.std.proofs.Common.{ap, ◌∙◌, is_some}
use Rattle.pc_syntax.specs.Words.{lowered}
use Rattle.pc_names.specs.Numbers.{number_of}
use Rattle.pc_names.specs.Table.{Table}
use Rattle.pc_headings.specs.NameListLaws.{passed-more}
use Rattle.pc_headings.proofs.names.put_passed.Goals as goal

pub returns-clause-passed : goal.returns-clause-passed
returns-clause-passed c = λ ns h n.
    ap (λ (t : Table). is_some (number_of t.texts n)) c.in_ok-number.ensures.table ∙ passed-more c.args.passed.now.texts ns (lowered c.args.word.now) h n
