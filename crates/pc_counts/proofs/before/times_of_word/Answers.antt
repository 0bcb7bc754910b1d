use Rattle.std.proofs.Common.{ap, sym, ◌∙◌}
use Rattle.pc_syntax.specs.Words.{lowered}
use Rattle.pc_counts.specs.Counting.{times_at}
use Rattle.pc_counts.specs.CountingLaws.{AreCounted-begins}
use Rattle.pc_counts.proofs.before.times_of_word.Goals as goal

pub returns-clause-times : goal.returns-clause-times
returns-clause-times c = λ passed h.
    let counts = c.args.counts.now in
    (AreCounted-begins counts c.args.tables.now.names.texts c.number.new.tables.names.texts passed c.in_ok-name.ensures.keeps.grows.names h).counted (lowered c.args.word.now)
    ∙ ap (times_at counts) c.in_ok-name.ensures.number ∙ sym c.count.ensures
