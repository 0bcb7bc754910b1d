use Rattle.std.proofs.Common.{◌≡◌, ◌+◌, ◌++◌, None, drop}
use Rattle.pc_syntax.specs.Plain.{forest_of}
use Rattle.pc_scope.specs.Declarations.{names_at}
use Rattle.pc_scope.specs.Entries.{all_declared}
use Rattle.pc_scope.proofs.naming.add_names.Given as goal

-- what is there and the names that are left make up the whole
abbrev pub invariant-loop-i : goal.invariant-loop-i
invariant-loop-i l =
    all_declared l.into.items ++ names_at None l.at (l.i + 1) (forest_of (drop l.i l.name-items)) ≡ all_declared l.fn.into.items ++ names_at None l.at 1 l.fn.list.kids
