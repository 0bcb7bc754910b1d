use Rattle.std.proofs.Common.{take}
use Rattle.pc_statements.specs.Opens.{OpensRow}
use Rattle.pc_statements.proofs.accesses.accesses.Given as goal

abbrev pub invariant-loop-kid : goal.invariant-loop-kid
invariant-loop-kid l = OpensRow l.body l.initial.going l.going (take l.kid-index l.kid-items) l.opening
