use Rattle.std.proofs.Common.{◌≡◌, drop}
use Rattle.pc_syntax.specs.Places.{at}
use Rattle.pc_syntax.proofs.tree.Tree.at.Given as goal

abbrev pub invariant-loop-step : goal.invariant-loop-step
invariant-loop-step l = at l.fn.path l.fn.self ≡ at (drop l.step-index l.step-items) l.node
