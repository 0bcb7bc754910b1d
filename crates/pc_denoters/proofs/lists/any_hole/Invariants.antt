use Rattle.std.proofs.Common.{◌≡◌, length}
use Rattle.pc_denoters.specs.Holes.{any_open}
use Rattle.pc_denoters.proofs.lists.any_hole.Given as goal

abbrev pub invariant-loop-rest : goal.invariant-loop-rest
invariant-loop-rest l = any_open l.rest ≡ any_open l.nodes

abbrev pub decreases-loop-rest : goal.decreases-loop-rest
decreases-loop-rest l = length l.rest
