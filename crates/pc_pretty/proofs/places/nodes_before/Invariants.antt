use Rattle.std.proofs.Common.{drop}
use Rattle.pc_pretty.proofs.Stepping.{Stepped}
use Rattle.pc_pretty.proofs.places.nodes_before.Given as goal

abbrev pub invariant-loop-step : goal.invariant-loop-step
invariant-loop-step l = Stepped l.fn.path l.fn.tree l.node (drop l.step-index l.step-items) l.count
