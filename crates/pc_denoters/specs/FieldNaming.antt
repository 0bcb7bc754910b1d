-- The names of the fields of a record, in the order of the text.
use Rattle.std.specs.Prelude.{◌≡◌, ℕ, List, [], ◌∷◌, ◌++◌}
use Rattle.pc_syntax.specs.Plain.{Plain, kids_of}
use Rattle.pc_denoters.specs.Passing.{names_of, repeats_of, any_hole_of}
use Rattle.pc_denoters.specs.declared.fields.FieldFound.{FieldFound}
use Rattle.pc_denoters.specs.declared.fields.FieldNames.{FieldNames}

-- the kids of the first of these trees
abbrev pub first_kids : List Plain → List Plain
first_kids [] = []
first_kids (t ∷ ts) = kids_of t

-- the names of a list of fields, as trees
abbrev pub field_trees : Plain → List Plain
field_trees t = first_kids (kids_of t)

-- the names of all lists, in small letters
abbrev pub all_field_names : List Plain → List (List ℕ)
all_field_names [] = []
all_field_names (t ∷ ts) = names_of (field_trees t) ++ all_field_names ts

-- the names of the list stand behind those of the record so far, and this was found at them
pub record NamedSoFar (old new : List (List ℕ)) (ts : List Plain) (f : FieldNames) : Type 0 where
  pub before : new ≡ old ++ names_of ts
  pub names : f.names.items ≡ names_of ts
  pub twice : f.twice.items ≡ repeats_of old 1 ts
  pub hole : f.hole ≡ any_hole_of ts

-- row 3 was found at the names of these lists, where these names stand before in the record
abbrev pub AreTwice : List (List ℕ) → List FieldFound → List Plain → Type 0
AreTwice before [] [] = Unit {0}
AreTwice before (f ∷ fs) (t ∷ ts) = (f.twice.items ≡ repeats_of before 1 (field_trees t)) × AreTwice (before ++ names_of (field_trees t)) fs ts
AreTwice before _ _ = ⊥
