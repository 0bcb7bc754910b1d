-- Types whose pointers lead to what one table of domains says (ISO 7185, 6.4.4).
use Rattle.std.specs.Prelude.{◌≡◌, ℕ, Bool, true, List, [], ◌∷◌, Option, Some, None, option_map}
use Rattle.pc_syntax.specs.Plain.{Forest, Nil, Cons}
use Rattle.pc_types.specs.Shapes.{Owner, Shape, SubrangeType, ArrayType, RecordType, PointerType, Fields, LastField, FieldOf, Domain, Typed}
use Rattle.pc_types.specs.Domains.{domain_in}
use Rattle.pc_rules.specs.Meanings.{Value, Meaning, Found, Here, Component, Local, Outside, find}
use Rattle.pc_rules.specs.Constants.{typed_value}
use Rattle.pc_rules.specs.Variables.{result_of}
use Rattle.pc_rules.specs.Attributes.{Attributes, Marked, Done, Mark, Node}
use Rattle.pc_environment.specs.Sight.{is_body}

-- what each domain is, by its block and its name, where it has neither an error nor a hole
abbrev pub Targets : Type 0
Targets = Owner → List ℕ → Option Shape

-- the pointers in a shape lead by these domains to what the targets say: its own, those of an array's elements and those of a
-- record's fields; the host of a subrange needs no domains, since `succ` and `pred` give values of it that have none
abbrev mutual
  pub Leads : List Domain → Targets → Shape → Type 0
  Leads ds targets (PointerType d o n) = domain_in ds o n ≡ targets o n
  Leads ds targets (SubrangeType d h a b) = Leads [] targets h
  Leads ds targets (ArrayType d p i e) = Leads ds targets e
  Leads ds targets (RecordType d p fs) = LeadFields ds targets fs
  Leads ds targets _ = Unit {0}

  pub LeadFields : List Domain → Targets → Fields → Type 0
  LeadFields ds targets LastField = Unit {0}
  LeadFields ds targets (FieldOf n t fs) = Leads ds targets t × LeadFields ds targets fs

-- the same of a shape, if there is one
abbrev pub LeadsIfAny : List Domain → Targets → Option Shape → Type 0
LeadsIfAny ds targets None = Unit {0}
LeadsIfAny ds targets (Some t) = Leads ds targets t

-- the same of each of some domains
abbrev pub LeadAll : List Domain → Targets → List Domain → Type 0
LeadAll ds targets [] = Unit {0}
LeadAll ds targets (d ∷ rest) = LeadsIfAny ds targets d.shape × LeadAll ds targets rest

-- a type's pointers lead to what the targets say, and so do those of the domains that are reached from it
pub record IsGood (targets : Targets) (t : Typed) : Type 0 where
  pub leads : Leads t.domains targets t.shape
  pub reached : LeadAll t.domains targets t.domains

-- the same of a type that may be unknown
abbrev pub IsGoodType : Targets → Option Typed → Type 0
IsGoodType targets None = Unit {0}
IsGoodType targets (Some t) = IsGood targets t

-- the same of a constant's type
abbrev pub IsGoodConstant : Targets → Option Value → Type 0
IsGoodConstant targets v = IsGoodType targets (option_map typed_value v)

-- the same of the types that go with a declaration: its own, its constant's, its result's
pub record IsGoodMeaning (targets : Targets) (m : Meaning) : Type 0 where
  pub typed : IsGoodType targets m.type
  pub constant : IsGoodConstant targets m.value
  pub result : IsGoodType targets (result_of m.signature)

-- the same of what a name means
abbrev pub IsGoodFound : Targets → Found → Type 0
IsGoodFound targets (Here m) = IsGoodMeaning targets m
IsGoodFound targets (Component t p) = IsGood targets t
IsGoodFound targets _ = Unit {0}

-- the same of the fields that are opened
abbrev pub AllOpenedGood : Targets → List (List ℕ × (Typed × Bool)) → Type 0
AllOpenedGood targets [] = Unit {0}
AllOpenedGood targets (f ∷ fs) = IsGood targets f.1.0 × AllOpenedGood targets fs

-- the same of all types that are found at a node
pub record IsGoodAt (targets : Targets) (a : Attributes) : Type 0 where
  pub meant : IsGoodFound targets a.found
  pub value : IsGoodType targets a.as_value.type
  pub place : IsGoodType targets a.as_place.type
  pub target : IsGoodType targets a.as_target.type
  pub fixed : IsGoodConstant targets a.constant
  pub opened : AllOpenedGood targets a.opens

-- the same at every node
abbrev pub GoodMarks : Targets → Marked → Type 0
GoodMarks targets Done = Unit {0}
GoodMarks targets (Mark a below rest) = IsGoodAt targets a × GoodMarks targets below × GoodMarks targets rest

-- the same at a kid and at every node below it
pub record IsGoodNode (targets : Targets) (n : Node) : Type 0 where
  pub here : IsGoodAt targets n.at
  pub under : GoodMarks targets n.below

-- the same of kids
abbrev pub AllNodesGood : Targets → List Node → Type 0
AllNodesGood targets [] = Unit {0}
AllNodesGood targets (n ∷ ns) = IsGoodNode targets n × AllNodesGood targets ns

-- the types of what names mean at a place are good
abbrev pub GoodPlace : Outside → Local → Targets → Type 0
GoodPlace out l targets = (n : List ℕ) → IsGoodFound targets (find out l n)

-- every node is of a kind that stands in a statement part
abbrev pub AllBody : Forest → Type 0
AllBody Nil = Unit {0}
AllBody (Cons k w ns ks ts) = (is_body k ≡ true) × AllBody ks × AllBody ts
