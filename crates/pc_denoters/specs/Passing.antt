-- The names of a list, one after the other: those that stand before, and those that were the first.
use Rattle.std.specs.Prelude.{◌≡◌, ◌<◌, ℕ, Bool, false, not, ◌||◌, if◌then◌else◌, List, [], ◌∷◌, ◌++◌, suc, length, Some, codes}
use Rattle.pc_syntax.specs.Plain.{Plain}
use Rattle.pc_syntax.specs.Sorts.{is_hole}
use Rattle.pc_syntax.specs.Words.{lowered, is_among}
use Rattle.pc_names.specs.Numbers.{number_of}
use Rattle.pc_rules.specs.Attributes.{Entry, at_kid}
use Rattle.pc_rules.specs.Entries.{note_if, quoted}
use Rattle.pc_rules.specs.Meanings.{Local, Outside, Meaning}
use Rattle.pc_places.specs.Places.{IsPlace, Moves}
use Rattle.pc_places.specs.declared.tables.Tables.{Tables}
use Rattle.pc_denoters.specs.declared.enumerations.Passed.{Passed}
use Rattle.pc_denoters.specs.declared.enumerations.NamesFound.{NamesFound}

-- the names of a list in small letters, holes aside
abbrev pub names_of : List Plain → List (List ℕ)
names_of [] = []
names_of (t ∷ ts) = if is_hole t.kind then names_of ts else lowered t.word ∷ names_of ts

-- row 3 at the names from kid i on, where these names stand before
abbrev pub repeats_of : List (List ℕ) → ℕ → List Plain → List Entry
repeats_of before i [] = []
repeats_of before i (t ∷ ts) =
    if is_hole t.kind then repeats_of before (suc i) ts
    else at_kid i (note_if (is_among before (lowered t.word)) 3 (quoted (codes "declared twice") t.word)) ++ repeats_of (lowered t.word ∷ before) (suc i) ts

-- whether a hole is among them
abbrev pub any_hole_of : List Plain → Bool
any_hole_of [] = false
any_hole_of (t ∷ ts) = is_hole t.kind || any_hole_of ts

-- these names stand before too
abbrev pub all_passing : Local → List (List ℕ) → Local
all_passing l ns = record l { passed = l.passed ++ ns }

-- these are the numbers of the names, and which of them did not stand before
abbrev pub ArePassed : List (List ℕ) → List (List ℕ) → List Passed → List (List ℕ) → Type 0
ArePassed texts before [] [] = Unit {0}
ArePassed texts before (e ∷ es) (n ∷ ns) = (number_of texts n ≡ Some e.name.0) × (e.first ≡ not (is_among before n)) × ArePassed texts (before ++ n ∷ []) es ns
ArePassed texts before _ _ = ⊥

-- each is the number of one of so many names
abbrev pub AreNumbered : ℕ → List Passed → Type 0
AreNumbered names [] = Unit {0}
AreNumbered names (e ∷ es) = (e.name.0 < names) × AreNumbered names es

-- what is known behind these declarations, those names that stood before aside
abbrev pub all_known : List (List ℕ) → List (List ℕ × Meaning) → List (List ℕ × Meaning) → List (List ℕ × Meaning)
all_known before ms [] = ms
all_known before ms (d ∷ ds) = all_known (before ++ d.0 ∷ []) (if is_among before d.0 then ms else ms ++ d ∷ []) ds

-- the names of the list stand before, and this was found at them
pub record PassedSoFar (block : ℕ) (old new : Tables) (ts : List Plain) (f : NamesFound) : Type 0 where
  pub moves : Moves block old new
  pub place : (owner : ℕ) (out : Outside) (l : Local) → IsPlace old block owner out l → IsPlace new block owner out (all_passing l (names_of ts))
  pub smalls : f.smalls.items ≡ names_of ts
  pub passed : (owner : ℕ) (out : Outside) (l : Local) → IsPlace old block owner out l → ArePassed new.names.texts l.passed f.passed.items (names_of ts)
  pub numbered : AreNumbered (length new.names.texts) f.passed.items
  pub entries : (owner : ℕ) (out : Outside) (l : Local) → IsPlace old block owner out l → f.entries.items ≡ repeats_of l.passed 1 ts
  pub hole : f.hole ≡ any_hole_of ts
