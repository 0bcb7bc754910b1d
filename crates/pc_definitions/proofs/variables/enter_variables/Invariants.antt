use Rattle.std.proofs.Common.{◌≡◌, take}
use Rattle.pc_definitions.specs.VariableNames.{DeclaredSoFar}
use Rattle.pc_definitions.proofs.variables.enter_variables.Given as goal

abbrev pub invariant-loop-kid : goal.invariant-loop-kid
invariant-loop-kid l = DeclaredSoFar l.block.0 l.owner.0 l.initial.tables l.tables (take l.kid-index l.kid-items) l.found × (l.i ≡ l.kid-index)
