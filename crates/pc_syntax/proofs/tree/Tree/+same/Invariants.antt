use Rattle.std.proofs.Common.{◌≡◌, take}
use Rattle.pc_syntax.specs.WellFormed.{size_of}
use Rattle.pc_syntax.specs.Plain.{kids_of}
use Rattle.pc_syntax.proofs.tree.Tree.+same.Given as goal

abbrev pub decreases-same : goal.decreases-same
decreases-same l = size_of l.self.now

abbrev pub invariant-loop-i : goal.invariant-loop-i
invariant-loop-i l = take l.i (kids_of l.self) ≡ take l.i (kids_of l.other)
