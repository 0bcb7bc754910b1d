use Rattle.std.proofs.Common.{take}
use Rattle.pc_syntax.specs.WellFormed.{size_of}
use Rattle.pc_own_names.specs.Noting.{Notes}
use Rattle.pc_own_names.specs.Walking.{at_nodes}
use Rattle.pc_own_names.proofs.walking.+note_below.Given as goal

abbrev pub decreases-note_below : goal.decreases-note_below
decreases-note_below l = size_of l.node.now

abbrev pub invariant-loop-kid : goal.invariant-loop-kid
invariant-loop-kid l = Notes (at_nodes (take l.kid-index l.kid-items)) l.initial.names.texts l.names.texts l.initial.found.items l.found.items
