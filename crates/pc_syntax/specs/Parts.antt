-- What a node holds and counts, from its parts.
use Rattle.std.specs.Prelude.{ℕ, zero, suc, max, List, [], ◌∷◌, Option, None, slice_get, if◌then◌else◌, Bool}
use Rattle.pc_syntax.specs.declared.kind.Kind.{Kind}
use Rattle.pc_syntax.specs.Plain.{Plain, kids_of}
use Rattle.pc_syntax.specs.Sorts.{is_hole}
use Rattle.pc_syntax.specs.WellFormed.{opens, last_open}

-- the largest number, or 0
abbrev pub largest : List ℕ → ℕ
largest [] = 0
largest (n ∷ ns) = max n (largest ns)

-- how many holes a node of this kind is itself
abbrev pub hole_count : Kind → ℕ
hole_count k = if is_hole k then 1 else 0

-- whether it ends open: an `else` after it would be its own
abbrev pub is_open : Plain → Bool
is_open p = opens p.kind (last_open p.kids)

-- the kid with a number from 1
abbrev pub kid_at : Plain → ℕ → Option Plain
kid_at p zero = None
kid_at p (suc i) = slice_get (kids_of p) i
