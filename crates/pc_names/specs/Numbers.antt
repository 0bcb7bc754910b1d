-- Names by their numbers: the place of a name in a list of names in small letters.
use Rattle.std.specs.Prelude.{◌≡◌, ℕ, suc, List, [], ◌∷◌, ◌++◌, Option, Some, None, option_map, slice_get, if◌then◌else◌}
use Rattle.std.specs.Str.{bytes_eq}

-- the number of a name in small letters, if it has one: the first counts
abbrev pub number_of : List (List ℕ) → List ℕ → Option ℕ
number_of [] n = None
number_of (m ∷ ms) n = if bytes_eq n m then Some 0 else option_map suc (number_of ms n)

-- the names with one more, the last, where it is not among them
abbrev pub with_name_if : Option ℕ → List (List ℕ) → List ℕ → List (List ℕ)
with_name_if (Some i) ms n = ms
with_name_if None ms n = ms ++ n ∷ []

-- the names with this one among them
abbrev pub with_name : List (List ℕ) → List ℕ → List (List ℕ)
with_name ms n = with_name_if (number_of ms n) ms n

-- no two of the names are equal
abbrev pub AreDistinct : List (List ℕ) → Type 0
AreDistinct ms = (i j : ℕ) (n : List ℕ) → slice_get ms i ≡ Some n → slice_get ms j ≡ Some n → i ≡ j
