use Rattle.pc_syntax.specs.Words.{lowered}
use Rattle.pc_counts.specs.CountedLaws.{Counted-one}
use Rattle.pc_counts.proofs.counting.count_word.Goals as goal

pub returns : goal.returns
returns c =
    Counted-one (lowered c.args.word.now) c.in_ok-name.name.0 c.args.counts.now c.add.new.self c.args.tables.now c.number.new.tables c.in_ok-name.ensures.keeps c.in_ok-name.ensures.number
    c.in_ok-add.ensures
