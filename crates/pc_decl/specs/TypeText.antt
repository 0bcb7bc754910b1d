-- The text of a type: its expanded form on one line, with the spaces of the layout.
use Rattle.std.specs.Prelude.{ℕ, Bool, true, false, ◌==◌, if◌then◌else◌, List, [], ◌∷◌, ◌++◌, Option, Some, None, codes, ℤ, zero, suc, nat_abs, ◌%◌}
use Rattle.std.specs.Fmt.{signed_decimal}
use Rattle.pc_types.specs.Expanded.{Ty, IntTy, TruthTy, LetterTy, NamedTy, SubTy, ArrayTy, RecordTy, SetTy, PointerTy, NoTy, FieldTys, LastTy, FieldTy}

-- names with a comma between two
abbrev pub listed : List (List ℕ) → List ℕ
listed [] = []
listed (n ∷ []) = n
listed (n ∷ m ∷ ns) = n ++ codes ", " ++ listed (m ∷ ns)

-- the i-th name, counted from 0
abbrev pub name_with : ℕ → List (List ℕ) → List ℕ
name_with i [] = []
name_with zero (n ∷ ns) = n
name_with (suc i) (n ∷ ns) = name_with i ns

-- a character as a text of the language: an apostrophe is doubled
abbrev pub character_text : ℕ → List ℕ
character_text c = if c == 39 then codes "''''" else 39 ∷ c ∷ 39 ∷ []

-- the truth value with this ordinal
abbrev pub truth_text : ℕ → List ℕ
truth_text n = if n == 0 then codes "false" else codes "true"

-- the constant of a type with this ordinal; that of a character is a byte
abbrev pub constant_text : Ty → ℤ → List ℕ
constant_text TruthTy i = truth_text (nat_abs i)
constant_text LetterTy i = character_text (nat_abs i % 256)
constant_text (NamedTy ns) i = name_with (nat_abs i) ns
constant_text t i = signed_decimal i

-- the key word of a packed type
abbrev pub packed_text : Bool → List ℕ
packed_text true = codes "packed "
packed_text false = []

-- the text of a type, and those of fields, each with its type
abbrev mutual
  pub type_text : Ty → List ℕ
  type_text IntTy = codes "integer"
  type_text TruthTy = codes "boolean"
  type_text LetterTy = codes "char"
  type_text (NamedTy ns) = codes "(" ++ listed ns ++ codes ")"
  type_text (SubTy t a b) = constant_text t a ++ codes ".." ++ constant_text t b
  type_text (ArrayTy p i e) = packed_text p ++ codes "array [" ++ type_text i ++ codes "] of " ++ type_text e
  type_text (RecordTy p fs) = packed_text p ++ codes "record " ++ fields_text fs ++ codes "end"
  type_text (SetTy p b) = packed_text p ++ codes "set of " ++ type_text b
  type_text (PointerTy o n) = codes "^" ++ n
  type_text NoTy = codes "?"

  pub fields_text : FieldTys → List ℕ
  fields_text LastTy = []
  fields_text (FieldTy n t LastTy) = n ++ codes ": " ++ type_text t ++ codes " "
  fields_text (FieldTy n t (FieldTy m u fs)) = n ++ codes ": " ++ type_text t ++ codes "; " ++ fields_text (FieldTy m u fs)

-- the text of a type, and another one where it is unknown
abbrev pub known_or : List ℕ → Option Ty → List ℕ
known_or other None = other
known_or other (Some t) = type_text t
