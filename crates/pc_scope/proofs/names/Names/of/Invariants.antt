use Rattle.std.proofs.Common.{◌≡◌, ℕ, List}
use Rattle.pc_scope.specs.Entries.{all_declared}
use Rattle.pc_scope.specs.Table.{first_of, owned, declarations_in}
use Rattle.pc_scope.proofs.names.Names.of.Given as goal

abbrev pub invariant-loop-named : goal.invariant-loop-named
invariant-loop-named l = (n : List ℕ) → first_of n (declarations_in l.names.entries.items) ≡ first_of n (owned l.owner (all_declared l.yielded))
