-- Row 3: names that are declared (ISO 7185, 6.2.2.7).
use Rattle.std.specs.Prelude.{ℕ, not, ◌&&◌, if◌then◌else◌, List, [], ◌∷◌, codes, ◌++◌, suc}
use Rattle.pc_syntax.specs.Sorts.{is_hole}
use Rattle.pc_syntax.specs.Words.{lowered, is_among}
use Rattle.pc_rules.specs.Attributes.{at_kid, Entry, Node}
use Rattle.pc_rules.specs.Entries.{note_if, quoted}
use Rattle.pc_rules.specs.Meanings.{Meaning, Local}

-- the names of a list, in lower case, holes aside
abbrev pub names_in : List Node → List (List ℕ)
names_in [] = []
names_in (a ∷ rest) = if is_hole a.kind then names_in rest else lowered a.word ∷ names_in rest

-- row 3 at each name of a list that stands before, or earlier in the list
abbrev pub repeats : List (List ℕ) → ℕ → List Node → List Entry
repeats before i [] = []
repeats before i (a ∷ rest) =
    if is_hole a.kind then repeats before (suc i) rest
    else at_kid i (note_if (is_among before (lowered a.word)) 3 (quoted (codes "declared twice") a.word)) ++ repeats (lowered a.word ∷ before) (suc i) rest

-- row 3 at the one name of a declaration
abbrev pub second_name : Local → Node → List Entry
second_name l a = note_if (not (is_hole a.kind) && is_among l.passed (lowered a.word)) 3 (quoted (codes "declared twice") a.word)

-- what a name declares; a hole declares nothing
abbrev pub declares : Node → Meaning → List (List ℕ × Meaning)
declares a m = if is_hole a.kind then [] else (lowered a.word, m) ∷ []

-- all these names with one meaning
abbrev pub all_as : Meaning → List (List ℕ) → List (List ℕ × Meaning)
all_as m [] = []
all_as m (n ∷ ns) = (n, m) ∷ all_as m ns
