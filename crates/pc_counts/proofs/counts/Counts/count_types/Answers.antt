use Rattle.std.proofs.Common.{sym, subst}
use Rattle.pc_syntax.specs.Plain.{kids_of}
use Rattle.pc_syntax.specs.declared.kind.Kind.TheVariants as kind
use Rattle.pc_denoters.specs.FormsAt.{first_place}
use Rattle.pc_counts.specs.Counting.{AreCounted}
use Rattle.pc_counts.specs.PassedLaws.{passed-kids, types-list}
use Rattle.pc_counts.proofs.counts.Counts.count_types.Goals as goal

pub count_part-requires : goal.count_part-requires
count_part-requires c = record { part = types-list c.args.list.now.kind c.requires.list }

pub returns-clause-before : goal.returns-clause-before
returns-clause-before c = λ l distinct h out. c.in_ok-before.ensures.before.before kind.Typedef out (first_place l kind.Types (kids_of c.args.list.now)) h

pub returns-clause-counts : goal.returns-clause-counts
returns-clause-counts c = λ out l distinct h.
    let list = c.args.list.now in
    subst (AreCounted c.count_part.new.counts c.count_part.new.tables.names.texts) (sym (passed-kids out l list c.in_ok-before.ensures.proper (types-list list.kind c.requires.list)))
    (c.in_ok-before.ensures.counted.counts l.passed h)

pub returns-clause-keeps : goal.returns-clause-keeps
returns-clause-keeps c = c.in_ok-before.ensures.counted.keeps
