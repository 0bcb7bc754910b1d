use Rattle.std.proofs.Common.{◌≡◌, map, take, slice_set}
use Rattle.pc_syntax.specs.WellFormed.{depth_of}
use Rattle.pc_syntax.specs.Parts.{largest}
use Rattle.pc_syntax.proofs.outline.deepest_with.Given as goal

abbrev pub invariant-loop-j : goal.invariant-loop-j
invariant-loop-j l = l.deepest ≡ largest (take l.j (slice_set (map depth_of l.trees) l.fn.i l.fn.depth))
