use Rattle.std.proofs.Common.{◌≡◌, take, length}
use Rattle.pc_syntax.proofs.same.same_notes.Given as goal

abbrev pub invariant-loop-i : goal.invariant-loop-i
invariant-loop-i l = (length l.notes ≡ length l.others) × (take l.i l.notes ≡ take l.i l.others)
