use Rattle.std.proofs.Common.{◌≡◌, length}
use Rattle.pc_syntax.specs.Words.{lowered}
use Rattle.pc_types.specs.Rows.{find_field}
use Rattle.pc_types.proofs.fields.find.Given as goal

abbrev pub invariant-loop-rest : goal.invariant-loop-rest
invariant-loop-rest l = find_field l.rest (lowered l.name) ≡ find_field l.fields (lowered l.name)

abbrev pub decreases-loop-rest : goal.decreases-loop-rest
decreases-loop-rest l = length l.rest
