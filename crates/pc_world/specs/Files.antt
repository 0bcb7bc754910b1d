-- What a shelf keeps: bytes under names.
use Rattle.std.specs.Prelude.{◌≡◌, ℕ, ◌<◌, List, length, slice_index_or, Option, Some, None, ⊤}
use Rattle.std.specs.Ordering.{nat_cmp}
use Rattle.std.specs.Cmp.Lexicographic.{slice_cmp}
use Rattle.std.specs.FinMap as map

-- Each name has its bytes, or is absent; names are lists of bytes, in the order of a dictionary.
abbrev pub Files : Type 0
Files = map.FinMap (slice_cmp nat_cmp) (List ℕ)

-- What is told of the files stays as it was.
abbrev pub KeepsFiles : Option Files → Option Files → Type 0
KeepsFiles None new = ⊤
KeepsFiles (Some files) new = new ≡ Some files

-- The name has these bytes now, and every other name has what it had.
abbrev pub PutsFile : Option Files → Option Files → List ℕ → List ℕ → Type 0
PutsFile None new name bytes = ⊤
PutsFile (Some files) new name bytes = new ≡ Some (map.insert files name bytes)

-- The answer is what stands under the name.
abbrev pub IsFileAt : Option Files → List ℕ → Option (List ℕ) → Type 0
IsFileAt None name answer = ⊤
IsFileAt (Some files) name answer = answer ≡ map.get files name

-- The place has the file of that name, or there is none.
abbrev pub FindsFile : List (List ℕ × List ℕ) → List ℕ → Option ℕ → Type 0
FindsFile files name None = map.find (slice_cmp nat_cmp) name files ≡ None
FindsFile files name (Some i) = (i < length files) × ((d : List ℕ × List ℕ) → map.find (slice_cmp nat_cmp) name files ≡ Some (slice_index_or files i d).1)
