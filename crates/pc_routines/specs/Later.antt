-- The routines that are no forward ones behind a place, by the numbers of their names.
use Rattle.std.specs.Prelude.{◌≡◌, ◌≤◌, ℕ, Bool, List, Option, None, length}
use Rattle.std.specs.Option.{is_some}
use Rattle.std.specs.Map.{lookup}
use Rattle.pc_names.specs.Bindings.{is_at}
use Rattle.pc_scope.specs.Headings.{Heading, has_later}
use Rattle.pc_routines.specs.Heads.{found_for}

-- what a table has at a number and a side
abbrev pub later_at : List ((ℕ × ℕ) × Bool) → ℕ → ℕ → Option Bool
later_at table i s = lookup (is_at i s) table

-- the table has those of these headings that are no forward ones
pub record HasLater (names : List (List ℕ)) (table : List ((ℕ × ℕ) × Bool)) (hs : List Heading) : Type 0 where
  pub has : (h : Heading) → is_some (found_for (later_at table) names h) ≡ has_later h hs
  pub within : (i s : ℕ) → length names ≤ i → later_at table i s ≡ None
