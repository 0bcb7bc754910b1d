use Rattle.std.proofs.Common.{length}
use Rattle.pc_type_rules.proofs.arrays.+arrays.Given as goal

abbrev pub decreases-arrays : goal.decreases-arrays
decreases-arrays l = length l.indexes.now
