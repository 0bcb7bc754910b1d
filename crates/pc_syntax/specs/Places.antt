-- Nodes by the way to them, and trees with one node changed.
use Rattle.std.specs.Prelude.{ℕ, ◌-◌, List, [], ◌∷◌, Option, Some, slice_set}
use Rattle.std.specs.Option.{option_and_then, option_map_or}
use Rattle.pc_syntax.specs.Plain.{Plain, node, kids_of}
use Rattle.pc_syntax.specs.Parts.{kid_at}

-- the node at a path: the number of a kid, from 1, at each step
abbrev pub at : List ℕ → Plain → Option Plain
at [] p = Some p
at (i ∷ is) p = option_and_then (at is) (kid_at p i)

-- the tree with another kid at a place, counted from 0
abbrev pub with_kid : Plain → ℕ → Plain → Plain
with_kid p i q = node p.kind p.word p.notes (slice_set (kids_of p) i q)

-- the tree with another node at a path; the same tree where there is no such node
abbrev pub put : List ℕ → Plain → Plain → Plain
put [] p q = q
put (i ∷ is) p q = option_map_or (λ k. with_kid p (i - 1) (put is k q)) (kid_at p i) p
