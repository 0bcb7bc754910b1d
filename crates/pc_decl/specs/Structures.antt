-- The structure that a type of heads stands for, as the texts of types see it.
use Rattle.std.specs.Prelude.{ℕ, List, [], ◌∷◌}
use Rattle.pc_types.specs.Shapes.{Keyed}
use Rattle.pc_types.specs.Expanded.{Ty, IntTy, TruthTy, LetterTy, NamedTy, SubTy, ArrayTy, RecordTy, SetTy, PointerTy, NoTy, FieldTys, LastTy, FieldTy}
use Rattle.pc_heads.specs.declared.ty.Ty.{Ty as Head, fold-Ty}
use Rattle.pc_heads.specs.declared.ty.Ty.TheOpen.{Ty-F}

-- fields in a row, each with its name and its structure
abbrev pub fields_in : List (List ℕ × Ty) → FieldTys
fields_in [] = LastTy
fields_in (f ∷ fs) = FieldTy f.0 f.1 (fields_in fs)

-- one level of a type, with the structures of its parts in their places
abbrev pub level_of : Ty-F Ty → Ty
level_of Ty-F.Int = IntTy
level_of Ty-F.Truth = TruthTy
level_of Ty-F.Letter = LetterTy
level_of (Ty-F.Named names) = NamedTy names
level_of (Ty-F.Sub host low high) = SubTy host low high
level_of (Ty-F.Array packed index element) = ArrayTy packed index element
level_of (Ty-F.Record packed fields) = RecordTy packed (fields_in fields)
level_of (Ty-F.Set packed base) = SetTy packed base
level_of (Ty-F.Pointer key name) = PointerTy (Keyed key) name

-- the structure of a type of heads
unfoldable pub structure : Head → Ty
structure = fold-Ty Ty level_of

-- the structures of fields, each behind its name
abbrev pub field_structures : List (List ℕ × Head) → FieldTys
field_structures [] = LastTy
field_structures (f ∷ fs) = FieldTy f.0 (structure f.1) (field_structures fs)

-- every part of a type has a structure: neither `nil` nor a set constructor without members is among them
abbrev mutual
  pub IsWhole : Ty → Type 0
  IsWhole NoTy = ⊥
  IsWhole (SubTy host low high) = IsWhole host
  IsWhole (ArrayTy packed index element) = IsWhole index × IsWhole element
  IsWhole (RecordTy packed fields) = AreWhole fields
  IsWhole (SetTy packed base) = IsWhole base
  IsWhole t = Unit {0}

  pub AreWhole : FieldTys → Type 0
  AreWhole LastTy = Unit {0}
  AreWhole (FieldTy name t fields) = IsWhole t × AreWhole fields
