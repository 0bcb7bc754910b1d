-- Types behind the type part of a block (ISO 7185, 6.4.4): what they lead to, and the domains that go with them, are what one table says.
use Rattle.std.specs.Prelude.{◌≡◌, ℕ, Bool, true, false, ◌&&◌, if◌then◌else◌, List, [], ◌∷◌, Option, Some, None}
use Rattle.pc_types.specs.Shapes.{Owner, Shape, SubrangeType, ArrayType, RecordType, PointerType, Fields, LastField, FieldOf, Domain, Typed}
use Rattle.pc_types.specs.Domains.{domain_in, stands_in, closed}
use Rattle.pc_rules.specs.ClosedTypes.{own_domains, carried, close_types}
use Rattle.pc_rules.specs.Declarations.{completed}
use Rattle.pc_rules.specs.Meanings.{Meaning, Local, Outside}
use Rattle.pc_rules.specs.NameClasses.{is_type_class}
use Rattle.pc_rules.specs.Variables.{result_of}
use Rattle.pc_pointers.specs.Good.{Targets, IsGood, IsGoodType, IsGoodConstant, IsGoodFound, AllOpenedGood, GoodPlace}

-- whether no pointer is in a shape, nor in the host of a subrange in it
abbrev mutual
  pub leads_nowhere : Shape → Bool
  leads_nowhere (PointerType d o n) = false
  leads_nowhere (SubrangeType d h a b) = leads_nowhere h
  leads_nowhere (ArrayType d p i e) = leads_nowhere e
  leads_nowhere (RecordType d p fs) = lead_nowhere fs
  leads_nowhere _ = true

  pub lead_nowhere : Fields → Bool
  lead_nowhere LastField = true
  lead_nowhere (FieldOf n t fs) = leads_nowhere t && lead_nowhere fs

-- the hosts of the subranges in a shape lead nowhere; by row 7 they are ordinal types
abbrev mutual
  pub HostsLeadNowhere : Shape → Type 0
  HostsLeadNowhere (SubrangeType d h a b) = leads_nowhere h ≡ true
  HostsLeadNowhere (ArrayType d p i e) = HostsLeadNowhere e
  HostsLeadNowhere (RecordType d p fs) = FieldHostsLeadNowhere fs
  HostsLeadNowhere _ = Unit {0}

  pub FieldHostsLeadNowhere : Fields → Type 0
  FieldHostsLeadNowhere LastField = Unit {0}
  FieldHostsLeadNowhere (FieldOf n t fs) = HostsLeadNowhere t × FieldHostsLeadNowhere fs

-- the same of a shape, if there is one, and of some domains
abbrev pub HostsLeadNowhereIfAny : Option Shape → Type 0
HostsLeadNowhereIfAny None = Unit {0}
HostsLeadNowhereIfAny (Some t) = HostsLeadNowhere t

abbrev pub AllHostsLeadNowhere : List Domain → Type 0
AllHostsLeadNowhere [] = Unit {0}
AllHostsLeadNowhere (d ∷ ds) = HostsLeadNowhereIfAny d.shape × AllHostsLeadNowhere ds

-- each domain is what the targets say of its place
abbrev pub AllAgree : Targets → List Domain → Type 0
AllAgree targets [] = Unit {0}
AllAgree targets (d ∷ ds) = (d.shape ≡ targets d.owner d.name) × AllAgree targets ds

-- the same of those that stand in another list's places no more
abbrev pub AllAgreeApart : Targets → List Domain → List Domain → Type 0
AllAgreeApart targets own [] = Unit {0}
AllAgreeApart targets own (d ∷ ds) = (stands_in own d.owner d.name ≡ false → d.shape ≡ targets d.owner d.name) × AllAgreeApart targets own ds

-- the targets say of each place of a list what the list does
abbrev pub Tells : Targets → List Domain → Type 0
Tells targets ds = (o : Owner) (n : List ℕ) → stands_in ds o n ≡ true → targets o n ≡ domain_in ds o n

-- a type's pointers, and those of what is reached from it, lead to what the targets say, and the domains that go with it are that
pub record IsSettled (targets : Targets) (t : Typed) : Type 0 where
  pub good : IsGood targets t
  pub agree : AllAgree targets t.domains

-- the same of a type that may be unknown
abbrev pub IsSettledType : Targets → Option Typed → Type 0
IsSettledType targets None = Unit {0}
IsSettledType targets (Some t) = IsSettled targets t

-- the same of the types among some declarations
abbrev pub AllTypesSettled : Targets → List (List ℕ × Meaning) → Type 0
AllTypesSettled targets [] = Unit {0}
AllTypesSettled targets (d ∷ ds) = (is_type_class d.1.class ≡ true → IsSettledType targets d.1.type) × AllTypesSettled targets ds

-- a place names none of some domains
abbrev mutual
  pub NamesNone : List Domain → Shape → Type 0
  NamesNone own (PointerType d o n) = stands_in own o n ≡ false
  NamesNone own (SubrangeType d h a b) = NamesNone own h
  NamesNone own (ArrayType d p i e) = NamesNone own e
  NamesNone own (RecordType d p fs) = FieldsNameNone own fs
  NamesNone own _ = Unit {0}

  pub FieldsNameNone : List Domain → Fields → Type 0
  FieldsNameNone own LastField = Unit {0}
  FieldsNameNone own (FieldOf n t fs) = NamesNone own t × FieldsNameNone own fs

abbrev pub NamesNoneIfAny : List Domain → Option Shape → Type 0
NamesNoneIfAny own None = Unit {0}
NamesNoneIfAny own (Some t) = NamesNone own t

-- domains stand elsewhere, and name none of these either
abbrev pub AllElsewhere : List Domain → List Domain → Type 0
AllElsewhere own [] = Unit {0}
AllElsewhere own (d ∷ ds) = (stands_in own d.owner d.name ≡ false) × NamesNoneIfAny own d.shape × AllElsewhere own ds

-- a type of a block around: it has nothing to do with the domains of this block
pub record IsElsewhere (own : List Domain) (t : Typed) : Type 0 where
  pub names : NamesNone own t.shape
  pub reached : AllElsewhere own t.domains

-- the targets in a block: the types of the block, and elsewhere the targets around it
abbrev pub with_types : List Domain → Targets → Targets
with_types own outer o n = if stands_in own o n then domain_in own o n else outer o n

-- Targets that say of the types of a block what they are behind its type part, and that say so of the other domains that are carried
-- along, fit a block; and its subranges are of hosts without pointers.
pub record FitsBlock (targets : Targets) (l : Local) : Type 0 where
  pub tells : Tells targets (own_domains (close_types l).known)
  pub others : AllAgreeApart targets (own_domains l.known) (carried l.known)
  pub own_hosts : AllHostsLeadNowhere (own_domains l.known)
  pub other_hosts : AllHostsLeadNowhere (carried l.known)

-- what else the declarations of a block have is good: the type of a constant, the result of a function, and the type of what is no type
pub record IsGoodBeside (targets : Targets) (m : Meaning) : Type 0 where
  pub constant : IsGoodConstant targets m.value
  pub result : IsGoodType targets (result_of m.signature)
  pub typed : is_type_class m.class ≡ false → IsGoodType targets m.type

abbrev pub AllGoodBeside : Targets → List (List ℕ × Meaning) → Type 0
AllGoodBeside targets [] = Unit {0}
AllGoodBeside targets (d ∷ ds) = IsGoodBeside targets d.1 × AllGoodBeside targets ds

-- what a block sees beside its own types is good: fields that are open, what names mean around it, the results of its functions
pub record IsGoodAround (targets : Targets) (out : Outside) (l : Local) : Type 0 where
  pub fields : AllOpenedGood targets l.fields
  pub outside : (n : List ℕ) → IsGoodFound targets (out.means n)
  pub headings : (n : List ℕ) → IsGoodType targets (result_of (out.heading n))
  pub known : AllGoodBeside targets l.known

-- closed types are settled
pub record ClosedLaw : Type 0 where
  -- for the targets that their own table gives
  pub alone : (table : List Domain) (t : Shape) (typed : Typed) → HostsLeadNowhere t → AllHostsLeadNowhere table → closed table (Some t) ≡ Some typed →
      IsSettled (domain_in table) typed
  -- for targets that say what the table does, as for the type of a variable
  pub agreeing : (targets : Targets) (table : List Domain) (t : Shape) (typed : Typed) → HostsLeadNowhere t → AllHostsLeadNowhere table → AllAgree targets table →
      closed table (Some t) ≡ Some typed → IsSettled targets typed
  pub complete : (targets : Targets) (t : Typed) → HostsLeadNowhere t.shape → AllHostsLeadNowhere t.domains → AllAgree targets t.domains →
      IsSettledType targets (completed (Some t))
  -- for targets that fit the block
  pub block : (targets : Targets) (l : Local) → FitsBlock targets l → AllTypesSettled targets (close_types l).known
  -- and then what names mean behind the type part is good, where it is beside
  pub place : (targets : Targets) (out : Outside) (l : Local) → FitsBlock targets l → IsGoodAround targets out l → GoodPlace out (close_types l) targets

-- the types of a block before the targets around it fit the block, and types around it stay settled
pub record OuterLaw : Type 0 where
  pub fits : (outer : Targets) (l : Local) → AllAgreeApart outer (own_domains l.known) (carried l.known) → AllHostsLeadNowhere (own_domains l.known) →
      AllHostsLeadNowhere (carried l.known) → FitsBlock (with_types (own_domains (close_types l).known) outer) l
  pub stays : (own : List Domain) (outer : Targets) (t : Typed) → IsElsewhere own t → IsSettled outer t → IsSettled (with_types own outer) t
