use Rattle.std.proofs.Common.{take}
use Rattle.pc_syntax.specs.Plain.{kids_of}
use Rattle.pc_statements.specs.Opens.{OpensRow}
use Rattle.pc_told.proofs.opening.open_first.Given as goal

abbrev pub invariant-loop-i : goal.invariant-loop-i
invariant-loop-i l = OpensRow l.body l.initial.going l.going (take l.i (kids_of l.list)) l.opening
