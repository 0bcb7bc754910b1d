use Rattle.std.proofs.Common.{[], sym, subst}
use Rattle.pc_counts.specs.Counting.{AreCounted}
use Rattle.pc_counts.specs.CountingLaws.{AreCounted-none}
use Rattle.pc_counts.proofs.counts.Counts.new.Goals as goal

pub returns-clause-counts : goal.returns-clause-counts
returns-clause-counts c = λ names. subst (λ v. AreCounted v names []) (sym c.new.ensures.empty) (AreCounted-none names)
