use Rattle.std.proofs.Common.{take}
use Rattle.pc_syntax.specs.WellFormed.{size_of}
use Rattle.pc_openings.specs.Announced.{Announced}
use Rattle.pc_openings.specs.Declaring.{all_declared}
use Rattle.pc_openings.proofs.announcing.+announce_below.Given as goal

abbrev pub decreases-announce_below : goal.decreases-announce_below
decreases-announce_below l = size_of l.node.now

abbrev pub invariant-loop-kid : goal.invariant-loop-kid
invariant-loop-kid l = Announced l.block.0 (all_declared (take l.kid-index l.kid-items)) l.initial.names l.names
