-- The trees of a history in one line.
use Rattle.std.specs.Prelude.{ℕ, ◌+◌, ◌-◌, ◌<◌, List, [], take, drop, length, slice_index_or, swap_remove}
use Rattle.std.specs.List.{All}
use Rattle.pc_syntax.specs.declared.kind.Kind.TheVariants.{Hole}
use Rattle.pc_syntax.specs.declared.sort.Sort.TheVariants as sort
use Rattle.pc_syntax.specs.Plain.{Plain, node}
use Rattle.pc_session.specs.declared.history.Last.{Last}
use Rattle.pc_session.specs.declared.history.Last.TheVariants.{Edited, Moved}
use Rattle.pc_session.specs.Trees.{IsProgram, Trees, Histories}

-- the tree where a line has none
unfoldable pub none : Plain
none = node (Hole sort.Program) [] [] []

-- the trees around a place of the line
abbrev pub trees_at : List Plain → ℕ → Trees
trees_at line place = record { earlier = take place line; tree = slice_index_or line place none; undone = drop (place + 1) line }

-- the trees now: after an edit none is undone, and what stands behind the place is only kept to take the edit back
abbrev pub now_of : Last → List Plain → ℕ → Trees
now_of Edited line place = record { earlier = take place line; tree = slice_index_or line place none; undone = [] }
now_of (Moved from) line place = trees_at line place

-- the trees before the last call: an edit has put its tree where the last of the line was
abbrev pub before_of : Last → List Plain → ℕ → Trees
before_of Edited line place = trees_at (swap_remove line place none) (place - 1)
before_of (Moved from) line place = trees_at line from

abbrev pub histories_of : Last → List Plain → ℕ → Histories
histories_of last line place = record { now = now_of last line place; before = before_of last line place }

-- the places stand in the line, and before an edit there was another
abbrev pub IsPlaced : Last → List Plain → ℕ → Type 0
IsPlaced Edited line place = (0 < place) × (place < length line)
IsPlaced (Moved from) line place = (from < length line) × (place < length line)

-- the trees of the line are programs, and the places stand in it
pub record IsLine (last : Last) (line : List Plain) (place : ℕ) : Type 0 where
  pub placed : IsPlaced last line place
  pub programs : All IsProgram line

-- the line without what is only kept to take an edit back
abbrev pub settled : Last → List Plain → ℕ → List Plain
settled Edited line place = take (place + 1) line
settled (Moved from) line place = line
