-- How large a type is, and the limits.
use Rattle.std.specs.Prelude.{ℕ, Bool, not, ◌||◌, nat_le, ◌+◌, ◌*◌, max, pos, nat_abs, ◌-ℤ◌, ◌+ℤ◌}
use Rattle.pc_types.specs.Shapes.{Shape, MembersType, TextType, SubrangeType, ArrayType, RecordType, SetType, Fields, LastField, FieldOf}
use Rattle.pc_types.specs.TypeClasses.{low, high}

-- how many values an index type has
abbrev pub values_of : Shape → ℕ
values_of i = nat_abs ((high i -ℤ low i) +ℤ pos 1)

abbrev mutual
  pub cells : Shape → ℕ
  cells (TextType n) = n
  cells (ArrayType d p i e) = values_of i * cells e
  cells (RecordType d p fs) = max 1 (cells_in fs)
  cells _ = 1

  pub cells_in : Fields → ℕ
  cells_in LastField = 0
  cells_in (FieldOf n t fs) = cells t + cells_in fs

abbrev mutual
  pub levels : Shape → ℕ
  levels (SubrangeType d h a b) = 1 + levels h
  levels (ArrayType d p i e) = 1 + max (levels i) (levels e)
  levels (RecordType d p fs) = 1 + levels_in fs
  levels (SetType d p b) = 1 + levels b
  levels (MembersType b) = 1 + levels b
  levels (TextType n) = 3
  levels _ = 1

  pub levels_in : Fields → ℕ
  levels_in LastField = 0
  levels_in (FieldOf n t fs) = max (levels t) (levels_in fs)

unfoldable pub cell_limit : ℕ
cell_limit = 1000000

unfoldable pub is_too_large : Shape → Bool
is_too_large t = not (nat_le (cells t) cell_limit) || not (nat_le (levels t) 256)
