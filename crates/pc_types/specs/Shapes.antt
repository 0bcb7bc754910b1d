-- Types (ISO 7185, 6.4): a type is its own definition and those that are reached from it through pointers.
use Rattle.std.specs.Prelude.{ℕ, Bool, List, Option, ℤ}

-- a routine by its key; one that has no key by its place
pub data Owner : Type 0 where
  Keyed : List (List ℕ) → Owner
  Placed : List ℕ → Owner

-- where a type is defined: in which block; the type's name, or the first name that its variables declare; how many earlier
-- denoters of the block bear that name; and the way to it inside the denoter
pub record Definition : Type 0 where
  pub owner : Owner
  pub name : List ℕ
  pub number : ℕ
  pub inside : List ℕ

-- the structure of a type, with the definition of each of its parts; the domain of a pointer is only named
mutual
  pub data Shape : Type 0 where
    IntegerType : Shape
    BooleanType : Shape
    CharType : Shape
    NilType : Shape
    NoMembers : Shape
    MembersType : Shape → Shape
    TextType : ℕ → Shape
    EnumeratedType : Definition → List (List ℕ) → Shape
    SubrangeType : Definition → Shape → ℤ → ℤ → Shape
    ArrayType : Definition → Bool → Shape → Shape → Shape
    RecordType : Definition → Bool → Fields → Shape
    SetType : Definition → Bool → Shape → Shape
    PointerType : Definition → Owner → List ℕ → Shape

  pub data Fields : Type 0 where
    LastField : Fields
    FieldOf : List ℕ → Shape → Fields → Fields

-- what a pointer leads to: the block and the name of its domain, and the shape, if that has neither an error nor a hole
pub record Domain : Type 0 where
  pub owner : Owner
  pub name : List ℕ
  pub shape : Option Shape

-- a type: its shape, and the domains that are reached from it
pub record Typed : Type 0 where
  pub shape : Shape
  pub domains : List Domain
