use Rattle.pc_syntax.specs.WellFormed.{depth_of}
use Rattle.pc_pretty.proofs.Deepest.{Searched}
use Rattle.pc_pretty.proofs.innermost.+deepest.Given as goal

abbrev pub decreases-deepest : goal.decreases-deepest
decreases-deepest l = depth_of l.node.now

abbrev pub invariant-loop-i : goal.invariant-loop-i
invariant-loop-i l = Searched l.text l.span l.fn.path l.node l.i l.best l.at
