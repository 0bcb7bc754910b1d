use Rattle.std.proofs.Common.{sym, subst}
use Rattle.pc_counts.specs.Counting.{AreCounted}
use Rattle.pc_counts.specs.PassedLaws.{passed-list, consts-list}
use Rattle.pc_counts.proofs.counts.Counts.count_constants.Goals as goal

pub returns-clause-counts : goal.returns-clause-counts
returns-clause-counts c = λ out l distinct h.
    let list = c.args.list.now in
    subst (AreCounted c.count_below.new.counts c.count_below.new.tables.names.texts) (sym (passed-list out l list c.in_ok-count_below.ensures.proper (consts-list list.kind c.requires.list)))
    (c.in_ok-count_below.ensures.counted.counts l.passed h)

pub returns-clause-keeps : goal.returns-clause-keeps
returns-clause-keeps c = c.in_ok-count_below.ensures.counted.keeps
