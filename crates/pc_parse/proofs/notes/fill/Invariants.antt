use Rattle.std.proofs.Common.{◌≡◌}
use Rattle.pc_parse.specs.Placing.{row}
use Rattle.pc_parse.proofs.notes.fill.Given as goal

abbrev pub invariant-loop-i : goal.invariant-loop-i
invariant-loop-i l = l.made.items ≡ row l.fn.made.items l.kids l.i
