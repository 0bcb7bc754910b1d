use Rattle.std.proofs.Common.{◌<◌, length, take}
use Rattle.pc_domains.specs.Sifting.{Sifts}
use Rattle.pc_domains.proofs.sifting.sift.Given as goal

abbrev pub invariant-loop-id : goal.invariant-loop-id
invariant-loop-id l = record {
  sifts : Sifts l.whole l.block.0 (take l.id-index l.ids) l.fn.tables l.tables;
  block : l.block.0 < length l.tables.names.chains;
}
