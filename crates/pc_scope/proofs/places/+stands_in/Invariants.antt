use Rattle.std.proofs.Common.{length}
use Rattle.pc_scope.proofs.places.+stands_in.Given as goal

abbrev pub decreases-stands_in : goal.decreases-stands_in
decreases-stands_in l = length l.place.now
