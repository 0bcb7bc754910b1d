-- What is kept of trees while a text is read: how deep and how large they are, and themselves where they are within
-- the limits.
use Rattle.std.specs.Prelude.{ℕ, ◌==◌, not, ◌+◌, ◌-◌, ◌^◌, min, max, nat_le, Bool, true, false, ◌&&◌, if◌then◌else◌, List, [], ◌∷◌, ◌++◌, Option, Some, None, map, sum_by}
use Rattle.std.specs.Option.{option_map}
use Rattle.pc_syntax.specs.declared.kind.Kind.{Kind}
use Rattle.pc_syntax.specs.Plain.{Plain, node}
use Rattle.pc_syntax.specs.WellFormed.{size_of, depth_of, depth_limit, size_limit}
use Rattle.pc_syntax.specs.Parts.{largest}
use Rattle.pc_parse.specs.declared.rows.Cut.{Cut}

-- whether a tree of this depth and this size is within the limits
abbrev pub is_within : ℕ → ℕ → Bool
is_within d n = nat_le d depth_limit && nat_le n size_limit

-- a number as the last value of its type where it passes that
abbrev pub depth_kept : ℕ → ℕ
depth_kept n = min n (2 ^ 32 - 1)

abbrev pub size_kept : ℕ → ℕ
size_kept n = min n (2 ^ 64 - 1)

-- what is kept of a tree
unfoldable pub cut : Plain → Cut
cut t = record { depth = depth_kept (depth_of t); size = size_kept (size_of t); tree = if is_within (depth_of t) (size_of t) then Some t else None }

-- what is kept of the kids of a node: the depth of the deepest, the size of all, and the trees where a node of them
-- is within the limits
pub record Row : Type 0 where
  pub depth : ℕ
  pub size : ℕ
  pub trees : Option (List Plain)

unfoldable pub row_of : List Plain → Row
row_of ts = record { depth = depth_kept (largest (map depth_of ts)); size = size_kept (sum_by size_of ts); trees = if is_within (1 + largest (map depth_of ts)) (1 + sum_by size_of ts) then Some ts else None }

-- no kids
abbrev pub no_kids : Row
no_kids = record { depth = 0; size = 0; trees = Some [] }

abbrev pub has_kids : Row → Bool
has_kids r = not (r.size == 0)

-- what is kept of a node, from what is kept of its kids
abbrev pub made : Kind → List ℕ → Row → Cut
made k w r = record { depth = depth_kept (r.depth + 1); size = size_kept (r.size + 1); tree = option_map (node k w []) r.trees }

abbrev pub joined : Bool → Option (List Plain) → Option Plain → Option (List Plain)
joined false ts t = None
joined true None t = None
joined true (Some ts) None = None
joined true (Some ts) (Some t) = Some (ts ++ t ∷ [])

-- one kid more
abbrev pub added : Row → Cut → Row
added r c = record { depth = max r.depth c.depth; size = size_kept (r.size + c.size); trees = joined (is_within (max r.depth c.depth + 1) (size_kept (r.size + c.size) + 1)) r.trees c.tree }
