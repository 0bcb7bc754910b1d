use Rattle.std.proofs.Common.{◌≡◌, take, sum_by}
use Rattle.pc_syntax.specs.WellFormed.{size_of}
use Rattle.pc_pretty.proofs.places.nodes_in.Given as goal

abbrev pub invariant-loop-i : goal.invariant-loop-i
invariant-loop-i l = l.count ≡ sum_by size_of (take l.i l.all)
