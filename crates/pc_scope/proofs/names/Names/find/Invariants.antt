use Rattle.std.proofs.Common.{length}
use Rattle.pc_syntax.specs.Words.{lowered}
use Rattle.pc_scope.specs.Table.{names_in}
use Rattle.pc_scope.proofs.Chains.{Walks}
use Rattle.pc_scope.proofs.names.Names.find.Given as goal

abbrev pub decreases-loop-at : goal.decreases-loop-at
decreases-loop-at l = l.at

abbrev pub invariant-loop-at : goal.invariant-loop-at
invariant-loop-at l = Walks (names_in l.self.entries.items) (length l.self.heads.items) (lowered l.name) l.at
