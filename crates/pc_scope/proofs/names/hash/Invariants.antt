use Rattle.std.proofs.Common.{◌≡◌, ◌<◌, drop}
use Rattle.pc_syntax.specs.Words.{lowered}
use Rattle.pc_scope.specs.Table.{hash_after}
use Rattle.pc_scope.proofs.names.hash.Given as goal

abbrev pub invariant-loop-byte : goal.invariant-loop-byte
invariant-loop-byte l = record {
  value : hash_after l.hash (lowered (drop l.byte-index l.name)) ≡ hash_after 0 (lowered l.name);
  small : l.hash < 4294967291;
}
