-- How two places of a tree stand to each other.
use Rattle.std.specs.Prelude.{ℕ, Bool, true, false, ◌&&◌, ◌==◌, if◌then◌else◌, List, [], ◌∷◌, Option, Some, None, nat_lt}

-- whether a place comes before another in the text, or around it
abbrev pub is_before : List ℕ → List ℕ → Bool
is_before [] [] = false
is_before [] (j ∷ js) = true
is_before (i ∷ is) [] = false
is_before (i ∷ is) (j ∷ js) = if i == j then is_before is js else nat_lt i j

-- whether the second place is that of the node at the first, or below it
abbrev pub stands_in : List ℕ → List ℕ → Bool
stands_in [] q = true
stands_in (i ∷ is) [] = false
stands_in (i ∷ is) (j ∷ js) = i == j && stands_in is js

-- whether a place stands in a definition of a constant or type, if there is one
abbrev pub in_definition : Option (List ℕ) → List ℕ → Bool
in_definition None q = false
in_definition (Some d) q = stands_in d q
