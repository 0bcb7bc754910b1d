use Rattle.std.proofs.Common.{length}
use Rattle.pc_scope.proofs.scopes.Scopes.+declaration_in.Given as goal

abbrev pub decreases-declaration_in : goal.decreases-declaration_in
decreases-declaration_in l = length l.way.now
