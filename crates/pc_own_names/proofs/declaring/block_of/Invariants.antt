use Rattle.std.proofs.Common.{◌≡◌, drop}
use Rattle.pc_syntax.specs.Plain.{forest_of}
use Rattle.pc_scope.specs.Blocks.{block_kids}
use Rattle.pc_own_names.proofs.declaring.block_of.Given as goal

abbrev pub invariant-loop-kid : goal.invariant-loop-kid
invariant-loop-kid l = block_kids (forest_of (drop l.kid-index l.kid-items)) ≡ block_kids l.fn.routine.kids
