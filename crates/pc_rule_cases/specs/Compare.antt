-- The first entry in which two error lists differ.
use Rattle.std.specs.Prelude.{ℕ, ◌+◌, ◌*◌, Bool, true, false, ◌&&◌, ◌==◌, List, [], ◌∷◌, codes}
use Prim.Native.String.{String}
use Rattle.std.specs.Str.{bytes_eq}
use Rattle.pc_syntax.specs.Plain.{Plain}
use Rattle.pc_types.specs.Sameness.{same}
use Rattle.pc_types.specs.TypeClasses.{largest_number}
use Rattle.pc_types.specs.Compatibility.{compatible, assignable}
use Rattle.pc_types.specs.Sizes.{cell_limit, is_too_large}
use Rattle.pc_types.specs.Domains.{reached}
use Rattle.pc_rules.specs.Attributes.{Entry}
use Rattle.pc_rules.specs.Decorated.{rule, decorate}
use Rattle.pc_rules.specs.Errors.{own_entries, errors_of}
use Rattle.pc_rules.specs.Meanings.{find}
use Rattle.pc_rules.specs.Outsides.{outside_of}
use Rattle.pc_rules.specs.OwnBlock.{own}
use Rattle.pc_rules.specs.RoutineList.{routines_in, routines_of}
use Rattle.pc_rules.specs.Routines.{heading_marks}

-- two lists are equal; or the first lacks an entry, or has one more, or they differ in one: its place as a number, and its row
pub data Difference : Type 0 where
  Equal : Difference
  Lacks : ℕ → ℕ → Difference
  Extra : ℕ → ℕ → Difference
  Differ : ℕ → ℕ → ℕ → ℕ → Difference

-- an entry of the error list
abbrev pub entry : List ℕ → ℕ → String → Entry
entry place row text = record { place = place; row = row; text = codes text }

-- a place as a number, two digits a step behind a 1
abbrev pub number_of : ℕ → List ℕ → ℕ
number_of n [] = n
number_of n (i ∷ is) = number_of (n * 100 + i) is

-- whether two entries are equal
abbrev pub same_entry : Entry → Entry → Bool
same_entry a b = bytes_eq a.place b.place && a.row == b.row && bytes_eq a.text b.text

-- the first difference of two lists
abbrev pub difference : List Entry → List Entry → Difference
difference [] [] = Equal
difference [] (w ∷ ws) = Lacks (number_of 1 w.place) w.row
difference (e ∷ es) [] = Extra (number_of 1 e.place) e.row
difference (e ∷ es) (w ∷ ws) = elim (same_entry e w) [ true ↦ difference es ws | false ↦ Differ (number_of 1 e.place) e.row (number_of 1 w.place) w.row ]

-- the first difference of a program's errors from a list; a page that opens it opens all that the errors are computed by
unfoldable pub differs : Plain → List Entry → Difference
unfolding same compatible assignable cell_limit is_too_large reached largest_number find rule decorate own routines_in routines_of outside_of own_entries errors_of heading_marks
differs t entries = difference (errors_of t) entries
