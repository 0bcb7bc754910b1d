-- The names of a variable declaration, one after the other.
use Rattle.std.specs.Prelude.{◌≡◌, ◌<◌, ℕ, Bool, false, ◌||◌, if◌then◌else◌, List, [], ◌∷◌, ◌++◌, suc, length, codes}
use Rattle.pc_syntax.specs.Plain.{Forest, Nil, Cons, Plain, forest_of}
use Rattle.pc_syntax.specs.Sorts.{is_hole}
use Rattle.pc_syntax.specs.Words.{lowered, is_among}
use Rattle.pc_scope.specs.Headings.{names_of}
use Rattle.pc_names.specs.declared.id.NameId.{NameId}
use Rattle.pc_rules.specs.Attributes.{Entry, at_kid}
use Rattle.pc_rules.specs.DeclaringNames.{all_as}
use Rattle.pc_rules.specs.Entries.{note_if, quoted}
use Rattle.pc_rules.specs.Meanings.{Local, Outside, define_all}
use Rattle.pc_places.specs.Places.{IsPlace, Moves}
use Rattle.pc_places.specs.declared.tables.Tables.{Tables}
use Rattle.pc_definitions.specs.DefineLaws.{new_names}
use Rattle.pc_definitions.specs.Variables.{untyped, AreNames}
use Rattle.pc_definitions.specs.declared.variables.Variables.{Variables}

-- row 3 at kid i, where its name, as written, stands before
abbrev pub twice_at : ℕ → Bool → List ℕ → List Entry
twice_at i twice w = at_kid i (note_if twice 3 (quoted (codes "declared twice") w))

-- row 3 at the names of a list from kid i on, where these names stand before
abbrev pub repeats_at : List (List ℕ) → ℕ → Forest → List Entry
repeats_at before i Nil = []
repeats_at before i (Cons k w ns ks ts) =
    if is_hole k then repeats_at before (suc i) ts else twice_at i (is_among before (lowered w)) w ++ repeats_at (lowered w ∷ before) (suc i) ts

-- whether a hole is among them
abbrev pub any_hole_at : Forest → Bool
any_hole_at Nil = false
any_hole_at (Cons k w ns ks ts) = is_hole k || any_hole_at ts

-- these are numbers of names, of so many
abbrev pub AreNumbers : ℕ → List NameId → Type 0
AreNumbers names [] = Unit {0}
AreNumbers names (i ∷ is) = (i.0 < names) × AreNumbers names is

-- the names of the list so far are declared as variables without a type, and this was found at them
pub record DeclaredSoFar (block owner : ℕ) (old new : Tables) (ts : List Plain) (v : Variables) : Type 0 where
  pub moves : Moves block old new
  pub there : AreNumbers (length new.names.texts) v.first.items
  pub place : (out : Outside) (l : Local) → IsPlace old block owner out l → IsPlace new block owner out (define_all l (all_as (untyped l) (names_of (forest_of ts))))
  pub first : (out : Outside) (l : Local) → IsPlace old block owner out l → AreNames new.names.texts v.first.items (new_names l (untyped l) (names_of (forest_of ts)))
  pub entries : (out : Outside) (l : Local) → IsPlace old block owner out l → v.entries.items ≡ repeats_at l.passed 1 (forest_of ts)
  pub hole : v.hole ≡ any_hole_at (forest_of ts)
