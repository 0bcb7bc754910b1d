use Rattle.std.proofs.Common.{List, take}
use Rattle.pc_facts.specs.Known.{Known}
use Rattle.pc_facts.specs.declared.sighting.Declared.{Declared}
use Rattle.pc_counts.specs.Counting.{CountsParameters}
use Rattle.pc_counts.proofs.parameters.count_each.Given as goal

abbrev pub invariant-loop-parameter : goal.invariant-loop-parameter
invariant-loop-parameter l = (k : Known) (ds : List Declared) → CountsParameters k ds (take l.parameter-index l.parameters) l.initial.counts l.counts
