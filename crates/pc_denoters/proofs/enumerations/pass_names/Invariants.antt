use Rattle.std.proofs.Common.{◌≡◌, take}
use Rattle.pc_denoters.specs.Passing.{PassedSoFar}
use Rattle.pc_denoters.proofs.enumerations.pass_names.Given as goal

abbrev pub invariant-loop-kid : goal.invariant-loop-kid
invariant-loop-kid l = PassedSoFar l.block.0 l.initial.tables l.tables (take l.kid-index l.kid-items) l.found × (l.i ≡ l.kid-index)
