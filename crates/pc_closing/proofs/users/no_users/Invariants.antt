use Rattle.std.proofs.Common.{◌≡◌, [], replicate}
use Rattle.pc_closing.proofs.users.no_users.Given as goal

abbrev pub invariant-loop-i : goal.invariant-loop-i
invariant-loop-i l = l.users.items ≡ replicate l.i []
