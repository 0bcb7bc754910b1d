-- What a name means in a block, and what the place of a node in its block says (ISO 7185, 6.2.2).
use Rattle.std.specs.Prelude.{ℕ, Bool, true, false, if◌then◌else◌, List, [], ◌∷◌, Option, Some, None, ◌++◌, ℤ}
use Rattle.std.specs.Str.{bytes_eq}
use Rattle.pc_syntax.specs.Words.{is_among}
use Rattle.pc_types.specs.Shapes.{Owner, Definition, Shape, Typed}
use Rattle.pc_scope.specs.Headings.{Heading}

-- what a constant stands for: the number of an ordinal value, or the characters of a string
pub data Constant : Type 0 where
  Ordinal : ℤ → Constant
  Chars : List ℕ → Constant

-- a constant with its type
pub record Value : Type 0 where
  pub type : Shape
  pub constant : Constant

-- what a name is declared as: an element is a constant of an enumerated type; values and references are value and variable parameters
pub data Class : Type 0 where
  ConstantName : Class
  ElementName : Class
  TypeName : Class
  VariableName : Class
  ValueName : Class
  ReferenceName : Class
  ProcedureName : Class
  FunctionName : Class

-- a formal parameter: its name, whether it is a variable parameter, and its type
pub record Formal : Type 0 where
  pub name : List ℕ
  pub by_place : Bool
  pub type : Typed

-- the formal parameters of a routine, and a function's result type
pub record Signature : Type 0 where
  pub formals : List Formal
  pub result : Option Typed

-- a declaration: as what, in which block, and what goes with its class, where that has neither an error nor a hole
pub record Meaning : Type 0 where
  pub class : Class
  pub owner : Owner
  pub value : Option Value
  pub type : Option Typed
  pub signature : Option Signature

-- a declaration of which no more is known than its class and its block
abbrev pub declared_as : Class → Owner → Meaning
declared_as c o = record { class = c; owner = o; value = None; type = None; signature = None }

-- what a used name means: a declaration that stands before, one that stands later, a field of the record of a with (and whether the
-- record is packed), a required name, or nothing
pub data Found : Type 0 where
  Here : Meaning → Found
  Later : Class → Found
  Component : Typed → Bool → Found
  Required : List ℕ → Found
  Missing : Found

-- what the place of a node in its block says: the block; the function whose block it is; all names that the block declares, in text
-- order; the names that stand before, and the declarations that are complete, the first of each name; the fields of the withs around,
-- the innermost first; the forward routines before that have no later declaration yet, and the headings of the routines from here on;
-- whether names here, and in the next kids, are used ones, and whether the kids open records; which kid it is; the definition around;
-- and whether that is packed
pub record Local : Type 0 where
  pub owner : Owner
  pub self : Option (Owner × List ℕ)
  pub names : List (List ℕ × Class)
  pub passed : List (List ℕ)
  pub known : List (List ℕ × Meaning)
  pub fields : List (List ℕ × (Typed × Bool))
  pub waiting : List Heading
  pub ahead : List Heading
  pub using : Bool
  pub using_next : Bool
  pub opening : Bool
  pub kid : ℕ
  pub around : Definition
  pub packed : Bool

-- what a block has from outside: what names mean around it; the parameters and results of the routines directly in it; and which of
-- its variables a routine in it assigns, reads, passes as a variable argument or controls
pub record Outside : Type 0 where
  pub means : List ℕ → Found
  pub heading : List ℕ → Option Signature
  pub touched : List ℕ → Bool

-- what stands under a name in a list; the first counts
abbrev pub entry_of : {X : Type 0} → List (List ℕ × X) → List ℕ → Option X
entry_of [] n = None
entry_of (e ∷ es) n = if bytes_eq e.0 n then Some e.1 else entry_of es n

-- whether a class is that of a routine
abbrev pub is_routine_class : Class → Bool
is_routine_class ProcedureName = true
is_routine_class FunctionName = true
is_routine_class _ = false

-- the declaration of a routine, with its parameters and result
abbrev pub with_signature : Outside → List ℕ → Meaning → Meaning
with_signature out n m = if is_routine_class m.class then record m { signature = out.heading n } else m

-- a complete declaration of the block, if there is one, and else the other meaning
abbrev pub known_or : Outside → List ℕ → Option Meaning → Found → Found
known_or out n (Some m) other = Here (with_signature out n m)
known_or out n None other = other

-- a name that the block declares later, if it does, and else the other meaning
abbrev pub later_or : Option Class → Found → Found
later_or (Some c) other = Later c
later_or None other = other

-- a field of the record of a with, if there is one, and else the other meaning
abbrev pub field_or : Option (Typed × Bool) → Found → Found
field_or (Some f) other = Component f.0 f.1
field_or None other = other

-- what a name in lower case means at a place: a field of a record that a with opened, a declaration of the block, or what it
-- means around the block
unfoldable pub find : Outside → Local → List ℕ → Found
find out l n = field_or (entry_of l.fields n) (known_or out n (entry_of l.known n) (later_or (entry_of l.names n) (out.means n)))

-- one more name stands before; it is declared unless it is a second one
abbrev pub define : Local → List ℕ → Meaning → Local
define l n m = record l { passed = l.passed ++ n ∷ []; known = if is_among l.passed n then l.known else l.known ++ (n, m) ∷ [] }

-- the same for each of these declarations in turn
abbrev pub define_all : Local → List (List ℕ × Meaning) → Local
define_all l [] = l
define_all l (d ∷ ds) = define_all (define l d.0 d.1) ds
