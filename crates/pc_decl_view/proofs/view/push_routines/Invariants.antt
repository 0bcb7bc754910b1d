use Rattle.std.proofs.Common.{◌≡◌, ◌++◌, drop, ℕ, None, get_or}
use Rattle.std.specs.Prelude.{slice_get}
use Rattle.std.specs.Option.{option_and_then}
use Rattle.std.specs.List.{flat_map, find}
use Rattle.pc_types.specs.Rows.{seen}
use Rattle.pc_views.specs.Limit.{Agrees}
use Rattle.pc_decl_view.specs.KeptLines.{is_later_of, kept_lines_among}
use Rattle.pc_decl_view.proofs.view.push_routines.Given as goal

-- what is there and the lines of the routines that are left make up the whole
abbrev pub invariant-loop-routine : goal.invariant-loop-routine
invariant-loop-routine l = ((n : ℕ) → option_and_then (slice_get l.routines) (get_or l.laters n None) ≡ find (is_later_of n) l.routines) →
    Agrees (l.text.items ++ flat_map (kept_lines_among (seen l.types) l.signatures l.routines) (drop l.routine-index l.routines)) (l.fn.text.items ++ flat_map (kept_lines_among (seen l.types) l.signatures l.routines) l.routines)
