-- What names mean in the declarations of a block, so that the types that are declared are carried (ISO 7185, 6.4).
use Rattle.std.specs.Prelude.{◌≡◌, ℕ, Bool, true, false, List, [], ◌∷◌, Option, Some, None}
use Rattle.pc_syntax.specs.declared.kind.Kind.{Kind}
use Rattle.pc_syntax.specs.declared.kind.Kind.TheVariants as kind
use Rattle.pc_syntax.specs.Plain.{Forest, Nil, Cons}
use Rattle.pc_syntax.specs.Sorts.{is_hole}
use Rattle.pc_syntax.specs.Words.{lowered}
use Rattle.pc_types.specs.Shapes.{Owner, Domain}
use Rattle.pc_types.specs.Domains.{stands_in}
use Rattle.pc_rules.specs.Attributes.{Attributes, Marked, Done, Mark, Node}
use Rattle.pc_rules.specs.Meanings.{Class, Value, Meaning, Found, Here, Later, Required, Missing, Local, Outside, entry_of, find}
use Rattle.pc_rules.specs.NameClasses.{is_type_class}
use Rattle.pc_pointers.specs.Good.{Targets}
use Rattle.pc_closed.specs.Settled.{leads_nowhere}
use Rattle.pc_closed.specs.Carried.{IsCarriedType, IsCarriedFound}

-- no pointer is in the type of a constant
abbrev pub IsPlainValue : Option Value → Type 0
IsPlainValue None = Unit {0}
IsPlainValue (Some v) = leads_nowhere v.type ≡ true

-- a declaration under its name: a type is carried, and told right; the type of a constant has no pointers
pub record IsCarriedMeaning (targets : Targets) (own : List Domain) (n : List ℕ) (m : Meaning) : Type 0 where
  pub named : is_type_class m.class ≡ true → IsCarriedFound targets own n (Here m)
  pub plain : IsPlainValue m.value

-- the same of what a name means; the required types are told right
abbrev pub IsCarriedName : Targets → List Domain → List ℕ → Found → Type 0
IsCarriedName targets own n (Here m) = IsCarriedMeaning targets own n m
IsCarriedName targets own n (Required r) = IsCarriedFound targets own n (Required r)
IsCarriedName targets own n f = Unit {0}

-- the same of what each name is in some declarations
abbrev pub KnownCarried : Targets → List Domain → List (List ℕ × Meaning) → Type 0
KnownCarried targets own ds = (n : List ℕ) (m : Meaning) → entry_of ds n ≡ Some m → IsCarriedMeaning targets own n m

-- the same of what names mean around a block
abbrev pub CarriedAround : Targets → List Domain → Outside → Type 0
CarriedAround targets own out = (n : List ℕ) → IsCarriedName targets own n (out.means n)

-- of a name that is declared later the targets say nothing in a block, unless it is one of its own types
abbrev pub IsConfinedName : Targets → List Domain → Owner → List ℕ → Found → Type 0
IsConfinedName targets own o n f = (c : Class) → f ≡ Later c → stands_in own o n ≡ false → targets o n ≡ None

-- the same of what each name means at a place
abbrev pub ConfinedPlace : Targets → List Domain → Outside → Local → Type 0
ConfinedPlace targets own out l = (n : List ℕ) (c : Class) → find out l n ≡ Later c → stands_in own l.owner n ≡ false → targets l.owner n ≡ None

-- what names mean at a place is carried
pub record CarriedPlace (targets : Targets) (own : List Domain) (out : Outside) (l : Local) : Type 0 where
  pub known : KnownCarried targets own l.known
  pub outside : CarriedAround targets own out
  pub confined : ConfinedPlace targets own out l

-- a declaration that is no type and has no type: that of a constant
pub record IsPlain (m : Meaning) : Type 0 where
  pub class : is_type_class m.class ≡ false
  pub untyped : m.type ≡ None
  pub unsigned : m.signature ≡ None
  pub value : IsPlainValue m.value

-- the same of each of some declarations
abbrev pub AllPlain : List (List ℕ × Meaning) → Type 0
AllPlain [] = Unit {0}
AllPlain (d ∷ ds) = IsPlain d.1 × AllPlain ds

-- at a node at or below a denoter: its type is carried, and so is what it means as a name; its constants are plain
pub record IsCarriedAt (targets : Targets) (own : List Domain) (a : Attributes) : Type 0 where
  pub meant : IsCarriedName targets own (lowered a.word) a.found
  pub unmeant : is_hole a.kind ≡ true → a.found ≡ Missing
  pub type : IsCarriedType targets own a.as_value.type
  pub fixed : IsPlainValue a.constant
  pub declared : AllPlain a.defines

-- the same at every node
abbrev pub CarriedMarks : Targets → List Domain → Marked → Type 0
CarriedMarks targets own Done = Unit {0}
CarriedMarks targets own (Mark a below rest) = IsCarriedAt targets own a × CarriedMarks targets own below × CarriedMarks targets own rest

-- the same at a kid and at every node below it
pub record IsCarriedNode (targets : Targets) (own : List Domain) (n : Node) : Type 0 where
  pub here : IsCarriedAt targets own n.at
  pub under : CarriedMarks targets own n.below

-- the same of kids
abbrev pub AllNodesCarried : Targets → List Domain → List Node → Type 0
AllNodesCarried targets own [] = Unit {0}
AllNodesCarried targets own (n ∷ ns) = IsCarriedNode targets own n × AllNodesCarried targets own ns

-- the kinds of nodes at and below a denoter
abbrev pub is_denoting : Kind → Bool
is_denoting kind.Tname = true
is_denoting kind.Enum = true
is_denoting kind.Subrange = true
is_denoting kind.Array = true
is_denoting kind.Record = true
is_denoting kind.Record0 = true
is_denoting kind.Setof = true
is_denoting kind.Packed = true
is_denoting kind.Pointer = true
is_denoting kind.Cnumber = true
is_denoting kind.Cstring = true
is_denoting kind.Cname = true
is_denoting kind.Csign = true
is_denoting kind.Name = true
is_denoting kind.Names = true
is_denoting kind.Indexes = true
is_denoting kind.Fields = true
is_denoting kind.Field = true
is_denoting (kind.Hole s) = true
is_denoting _ = false

-- all nodes of some trees are of these kinds
abbrev pub AllDenoting : Forest → Type 0
AllDenoting Nil = Unit {0}
AllDenoting (Cons k w ns ks ts) = (is_denoting k ≡ true) × AllDenoting ks × AllDenoting ts

-- the definitions of constants and types, and holes
abbrev pub is_defining : Kind → Bool
is_defining kind.Constdef = true
is_defining kind.Typedef = true
is_defining (kind.Hole s) = true
is_defining _ = false

-- definitions in a row, with nodes at and below denoters in them
abbrev pub AllDefining : Forest → Type 0
AllDefining Nil = Unit {0}
AllDefining (Cons k w ns ks ts) = (is_defining k ≡ true) × AllDenoting ks × AllDefining ts
