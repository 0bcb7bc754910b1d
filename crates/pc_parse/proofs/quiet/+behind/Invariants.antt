use Rattle.std.proofs.Common.{◌≡◌, ◌+◌, drop, sum_by}
use Rattle.pc_syntax.specs.WellFormed.{size_of}
use Rattle.pc_parse.specs.Placing.{breadth}
use Rattle.pc_parse.proofs.quiet.+behind.Given as goal

abbrev pub decreases-behind : goal.decreases-behind
decreases-behind l = size_of l.tree.now

-- what is left makes up the rest
abbrev pub invariant-loop-kid : goal.invariant-loop-kid
invariant-loop-kid l = l.fn.start + breadth l.fn.tree ≡ l.at + sum_by breadth (drop l.kid-index l.kids)
