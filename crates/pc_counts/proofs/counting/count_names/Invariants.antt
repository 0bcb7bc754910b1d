use Rattle.std.proofs.Common.{take}
use Rattle.pc_counts.specs.Counted.{Counted}
use Rattle.pc_counts.specs.NamesLaws.{all_listed}
use Rattle.pc_counts.proofs.counting.count_names.Given as goal

abbrev pub invariant-loop-name : goal.invariant-loop-name
invariant-loop-name l = Counted (all_listed (take l.name-index l.name-items)) l.initial.counts l.counts l.initial.tables l.tables
