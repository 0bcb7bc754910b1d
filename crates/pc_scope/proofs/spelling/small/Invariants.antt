use Rattle.std.proofs.Common.{◌≡◌, take, map}
use Rattle.pc_syntax.specs.Words.{lower}
use Rattle.pc_scope.proofs.spelling.small.Given as goal

abbrev pub invariant-loop-byte : goal.invariant-loop-byte
invariant-loop-byte l = l.bytes.items ≡ map lower (take l.byte-index l.name)
