use Rattle.std.proofs.Common.{◌≡◌, take}
use Rattle.pc_syntax.specs.Words.{lowered}
use Rattle.pc_own_names.proofs.noting.small.Given as goal

abbrev pub invariant-loop-byte : goal.invariant-loop-byte
invariant-loop-byte l = l.small.items ≡ lowered (take l.byte-index l.word)
