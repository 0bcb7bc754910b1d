use Rattle.std.proofs.Common.{◌≡◌, take}
use Rattle.pc_syntax.specs.Words.{lowered}
use Rattle.pc_statements.proofs.controls.put_lowered.Given as goal

abbrev pub invariant-loop-byte : goal.invariant-loop-byte
invariant-loop-byte l = l.small.items ≡ lowered (take l.byte-index l.word)
