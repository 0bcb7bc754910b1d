use Rattle.std.proofs.Common.{◌≡◌, drop}
use Rattle.pc_syntax.specs.Plain.{forest_of}
use Rattle.pc_scope.specs.Headings.{ends_forward}
use Rattle.pc_routines.proofs.kinds.ends_forward.Given as goal

abbrev pub invariant-loop-kid : goal.invariant-loop-kid
invariant-loop-kid l = ends_forward (forest_of (drop l.kid-index l.kid-items)) ≡ ends_forward l.fn.routine.kids
