-- The structure of a type alone, with all names expanded.
use Rattle.std.specs.Prelude.{ℕ, Bool, true, false, List, pos, ℤ}
use Rattle.pc_types.specs.Shapes.{Owner, Shape, IntegerType, BooleanType, CharType, NilType, NoMembers, MembersType, TextType, EnumeratedType, SubrangeType, ArrayType, RecordType, SetType, PointerType, Fields, LastField, FieldOf}

mutual
  pub data Ty : Type 0 where
    IntTy : Ty
    TruthTy : Ty
    LetterTy : Ty
    NamedTy : List (List ℕ) → Ty
    SubTy : Ty → ℤ → ℤ → Ty
    ArrayTy : Bool → Ty → Ty → Ty
    RecordTy : Bool → FieldTys → Ty
    SetTy : Bool → Ty → Ty
    PointerTy : Owner → List ℕ → Ty
    NoTy : Ty

  pub data FieldTys : Type 0 where
    LastTy : FieldTys
    FieldTy : List ℕ → Ty → FieldTys → FieldTys

abbrev mutual
  pub expanded : Shape → Ty
  expanded IntegerType = IntTy
  expanded BooleanType = TruthTy
  expanded CharType = LetterTy
  expanded NilType = NoTy
  expanded NoMembers = NoTy
  expanded (MembersType b) = SetTy false (expanded b)
  expanded (TextType n) = ArrayTy true (SubTy IntTy (pos 1) (pos n)) LetterTy
  expanded (EnumeratedType d ns) = NamedTy ns
  expanded (SubrangeType d h a b) = SubTy (expanded h) a b
  expanded (ArrayType d p i e) = ArrayTy p (expanded i) (expanded e)
  expanded (RecordType d p fs) = RecordTy p (expanded_fields fs)
  expanded (SetType d p b) = SetTy p (expanded b)
  expanded (PointerType d o n) = PointerTy o n

  pub expanded_fields : Fields → FieldTys
  expanded_fields LastField = LastTy
  expanded_fields (FieldOf n t fs) = FieldTy n (expanded t) (expanded_fields fs)
