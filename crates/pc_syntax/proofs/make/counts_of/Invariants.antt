use Rattle.std.proofs.Common.{take}
use Rattle.pc_syntax.specs.Parts.{hole_count}
use Rattle.pc_syntax.proofs.CountedSoFar.{CountedSoFar}
use Rattle.pc_syntax.proofs.make.counts_of.Given as goal

abbrev pub invariant-loop-kid : goal.invariant-loop-kid
invariant-loop-kid l = CountedSoFar (hole_count l.fn.kind) (take l.kid-index l.kids) l.size l.depth l.holes
