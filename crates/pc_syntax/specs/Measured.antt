-- The numbers of levels and nodes of a tree, as a type holds them: one that passes its type's end is the type's last value.
use Rattle.std.specs.Prelude.{◌≡◌, ℕ, ◌+◌, ◌-◌, ◌^◌, min, map, List, [], ◌∷◌, Option, None, Some, MatchOption, slice_set}
use Rattle.std.specs.Option.{option_and_then, option_map}
use Rattle.pc_syntax.specs.Plain.{Plain, kids_of}
use Rattle.pc_syntax.specs.WellFormed.{depth_of, size_of}
use Rattle.pc_syntax.specs.Parts.{largest, kid_at}
use Rattle.pc_syntax.specs.Places.{at, put}

-- how many levels a tree has
abbrev pub level_count : Plain → ℕ
level_count p = min (depth_of p) (2 ^ 32 - 1)

-- how many nodes a tree has
abbrev pub node_count : Plain → ℕ
node_count p = min (size_of p) (2 ^ 64 - 1)

-- the number of the tree with any piece that has this number itself at the path; none where there is no such node
abbrev pub CountsWith : (Plain → ℕ) → Plain → List ℕ → ℕ → Option ℕ → Type 0
CountsWith number_of p path number result =
    (q : Plain) → number ≡ number_of q → MatchOption (at path p) (result ≡ None) (λ _. result ≡ Some (number_of (put path p q)))

-- how many levels a node has with so many in the place of its kid i, counted from 0
abbrev pub levels_with_kid : Plain → ℕ → ℕ → ℕ
levels_with_kid p i number = min (largest (slice_set (map depth_of (kids_of p)) i number) + 1) (2 ^ 32 - 1)

-- how many levels a tree has with so many in the place of the node at a path, if there is such a node
abbrev pub levels_with : List ℕ → Plain → ℕ → Option ℕ
levels_with [] p number = Some number
levels_with (i ∷ is) p number = option_and_then (λ k. option_map (levels_with_kid p (i - 1)) (levels_with is k number)) (kid_at p i)

-- how many nodes a tree has with so many in the place of the node at a path, if there is such a node
abbrev pub nodes_with : List ℕ → Plain → ℕ → Option ℕ
nodes_with path p number = option_map (λ old. min (size_of p - size_of old + number) (2 ^ 64 - 1)) (at path p)
