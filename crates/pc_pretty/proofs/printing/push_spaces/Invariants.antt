use Rattle.std.proofs.Common.{◌≡◌, ◌++◌}
use Rattle.pc_pretty.specs.Spacing.{spaces}
use Rattle.pc_pretty.proofs.printing.push_spaces.Given as goal

abbrev pub invariant-loop-i : goal.invariant-loop-i
invariant-loop-i l = l.out.items ≡ l.initial.out.items ++ spaces l._i
