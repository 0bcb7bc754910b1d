use Rattle.std.proofs.Common.{take}
use Rattle.pc_syntax.specs.WellFormed.{size_of}
use Rattle.pc_told.specs.Tells.{TellsRow}
use Rattle.pc_told.proofs.below.+tell.Given as goal

abbrev pub decreases-tell : goal.decreases-tell
decreases-tell l = size_of l.node.now

abbrev pub invariant-loop-i : goal.invariant-loop-i
invariant-loop-i l = TellsRow l.body l.initial.going l.going l.initial.told.items l.told.items l.below l.own (take l.i l.kid-items)
