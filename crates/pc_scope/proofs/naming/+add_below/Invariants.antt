use Rattle.std.proofs.Common.{◌≡◌, ◌+◌, ◌++◌, drop}
use Rattle.pc_syntax.specs.Plain.{forest_of}
use Rattle.pc_syntax.specs.WellFormed.{size_of}
use Rattle.pc_scope.specs.Declarations.{declared_at}
use Rattle.pc_scope.specs.Entries.{all_declared}
use Rattle.pc_scope.proofs.naming.+add_below.Given as goal

abbrev pub decreases-add_below : goal.decreases-add_below
decreases-add_below l = size_of l.tree.now

-- what is there and what the kids that are left declare make up the whole
abbrev pub invariant-loop-i : goal.invariant-loop-i
invariant-loop-i l =
    all_declared l.into.items ++ declared_at l.at (l.i + 1) (forest_of (drop l.i l.kid-items)) ≡ all_declared l.fn.into.items ++ declared_at l.at 1 l.fn.tree.kids
