use Rattle.std.proofs.Common.{take}
use Rattle.pc_openings.specs.Declaring.{all_declared}
use Rattle.pc_counts.specs.Counted.{Counted, TellsBefore}
use Rattle.pc_counts.specs.Counting.{all_names}
use Rattle.pc_counts.proofs.parts.count_part.Given as goal

abbrev pub invariant-loop-kid : goal.invariant-loop-kid
invariant-loop-kid l =
    TellsBefore (take l.kid-index l.kid-items) l.initial.counts l.initial.tables.names.texts l.before.items
    × Counted (all_names (all_declared (take l.kid-index l.kid-items))) l.initial.counts l.counts l.initial.tables l.tables
