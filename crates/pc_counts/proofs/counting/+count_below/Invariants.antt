use Rattle.std.proofs.Common.{take}
use Rattle.pc_syntax.specs.WellFormed.{size_of}
use Rattle.pc_openings.specs.Declaring.{all_declared}
use Rattle.pc_counts.specs.Counted.{Counted}
use Rattle.pc_counts.specs.Counting.{all_names}
use Rattle.pc_counts.proofs.counting.+count_below.Given as goal

abbrev pub decreases-count_below : goal.decreases-count_below
decreases-count_below l = size_of l.node.now

abbrev pub invariant-loop-kid : goal.invariant-loop-kid
invariant-loop-kid l = Counted (all_names (all_declared (take l.kid-index l.kid-items))) l.initial.counts l.counts l.initial.tables l.tables
