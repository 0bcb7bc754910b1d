use Rattle.std.proofs.Common.{length}
use Rattle.pc_told.proofs.down.+tell_down.Given as goal

abbrev pub decreases-tell_down : goal.decreases-tell_down
decreases-tell_down l = length l.way.now
