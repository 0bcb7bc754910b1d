use Rattle.std.proofs.Common.{◌≡◌, take}
use Rattle.pc_denoters.specs.Completing.{CompletedSoFar}
use Rattle.pc_denoters.proofs.enumerations.complete_elements.Given as goal

abbrev pub invariant-loop-one : goal.invariant-loop-one
invariant-loop-one l = CompletedSoFar l.block.0 l.owner l.of l.initial.tables l.tables (take l.one-index l.passed) × (l.i ≡ l.one-index)
