-- What the types of a type part carry along, while it is read (ISO 7185, 6.4): the domains of other blocks agree with the targets.
use Rattle.std.specs.Prelude.{◌≡◌, ℕ, Bool, true, false, List, [], ◌∷◌, ◌++◌, Option, Some, None, option_map}
use Rattle.pc_types.specs.Shapes.{Keyed, Definition, Shape, ArrayType, RecordType, PointerType, Fields, LastField, FieldOf, Domain, Typed}
use Rattle.pc_types.specs.Domains.{domain_in, stands_in}
use Rattle.pc_types.specs.TypeClasses.{is_ordinal}
use Rattle.pc_rules.specs.Attributes.{Node}
use Rattle.pc_rules.specs.ClosedTypes.{own_domains, carried, close_types}
use Rattle.pc_rules.specs.Denoters.{type_of_found, subrange_of, pointer_to, typed}
use Rattle.pc_rules.specs.Meanings.{Class, Meaning, Value, Found, Here, Later, Required, Local, entry_of}
use Rattle.pc_rules.specs.NameClasses.{is_type_class}
use Rattle.pc_rules.specs.RequiredMeanings.{required_type}
use Rattle.pc_rules.specs.StructuredTypes.{Row, arrays, row_of, field_denoter}
use Rattle.pc_pointers.specs.Good.{Targets, IsGood}
use Rattle.pc_closed.specs.Settled.{leads_nowhere, HostsLeadNowhere, AllHostsLeadNowhere, AllAgreeApart, FitsBlock, with_types}

-- the pointers in a shape, but for those to the block's own types, lead by these domains to what the targets say; the host of a subrange has none
abbrev mutual
  pub LeadsApart : Targets → List Domain → List Domain → Shape → Type 0
  LeadsApart targets own ds (PointerType d o n) = stands_in own o n ≡ false → domain_in ds o n ≡ targets o n
  LeadsApart targets own ds (ArrayType d p i e) = LeadsApart targets own ds e
  LeadsApart targets own ds (RecordType d p fs) = FieldsLeadApart targets own ds fs
  LeadsApart targets own ds _ = Unit {0}

  pub FieldsLeadApart : Targets → List Domain → List Domain → Fields → Type 0
  FieldsLeadApart targets own ds LastField = Unit {0}
  FieldsLeadApart targets own ds (FieldOf n t fs) = LeadsApart targets own ds t × FieldsLeadApart targets own ds fs

-- the same of a shape, if there is one
abbrev pub LeadsApartIfAny : Targets → List Domain → List Domain → Option Shape → Type 0
LeadsApartIfAny targets own ds None = Unit {0}
LeadsApartIfAny targets own ds (Some t) = LeadsApart targets own ds t

-- the same of each of some domains
abbrev pub AllLeadApart : Targets → List Domain → List Domain → List Domain → Type 0
AllLeadApart targets own ds [] = Unit {0}
AllLeadApart targets own ds (d ∷ rest) = LeadsApartIfAny targets own ds d.shape × AllLeadApart targets own ds rest

-- a type whose domains agree with the targets, but for those of the block's own types, and whose subranges are of hosts without pointers;
-- its pointers, and those of its domains, lead by these to what the targets say, but for those to the block's own types
pub record IsCarried (targets : Targets) (own : List Domain) (t : Typed) : Type 0 where
  pub others : AllAgreeApart targets own t.domains
  pub hosts : HostsLeadNowhere t.shape
  pub further : AllHostsLeadNowhere t.domains
  pub leads : LeadsApart targets own t.domains t.shape
  pub lead : AllLeadApart targets own t.domains t.domains

-- the same of a type that may be unknown
abbrev pub IsCarriedType : Targets → List Domain → Option Typed → Type 0
IsCarriedType targets own None = Unit {0}
IsCarriedType targets own (Some t) = IsCarried targets own t

-- the shape of a type, if it is known
abbrev pub shape_if_any : Option Typed → Option Shape
shape_if_any t = option_map (λ (x : Typed). x.shape) t

-- a name means a type that is carried, and the targets say what it is, but of the block's own types; the required types are known to them
abbrev pub IsCarriedFound : Targets → List Domain → List ℕ → Found → Type 0
IsCarriedFound targets own n (Here m) = IsCarriedType targets own m.type × (stands_in own m.owner n ≡ false → shape_if_any m.type ≡ targets m.owner n)
IsCarriedFound targets own n (Required r) = stands_in own (Keyed []) n ≡ false → required_type n ≡ targets (Keyed []) n
IsCarriedFound targets own n f = Unit {0}

-- the same of each of some nodes
abbrev pub AllCarried : Targets → List Domain → (Node → Node) → List Node → Type 0
AllCarried targets own part [] = Unit {0}
AllCarried targets own part (n ∷ ns) = IsCarriedType targets own (part n).as_value.type × AllCarried targets own part ns

-- the same of the types among some declarations
abbrev pub AllTypesCarried : Targets → List Domain → List (List ℕ × Meaning) → Type 0
AllTypesCarried targets own [] = Unit {0}
AllTypesCarried targets own (d ∷ ds) = IsCarriedType targets own d.1.type × AllTypesCarried targets own ds

-- what denoters make of their parts is carried, where these are: names, pointers, subranges, arrays, records, and what has no pointers
pub record CarriedLaw : Type 0 where
  pub name : (targets : Targets) (own : List Domain) (n : List ℕ) (f : Found) → IsCarriedFound targets own n f → IsCarriedType targets own (type_of_found f)
  -- of a domain that is declared later the targets say nothing in the block, unless it is one of its own types
  pub pointer : (targets : Targets) (own : List Domain) (l : Local) (n : List ℕ) (f : Found) → IsCarriedFound targets own n f →
      ((c : Class) → f ≡ Later c → stands_in own l.owner n ≡ false → targets l.owner n ≡ None) → IsCarriedType targets own (pointer_to l n f)
  pub subrange : (targets : Targets) (own : List Domain) (d : Definition) (a b : Value) → is_ordinal a.type ≡ true → HostsLeadNowhere a.type →
      IsCarriedType targets own (option_map typed (subrange_of d a b))
  pub array : (targets : Targets) (own : List Domain) (d : Definition) (i : ℕ) (p : Bool) (indexes : List Node) (e : Typed) → IsCarried targets own e → IsCarriedType targets own (arrays d i p indexes e)
  pub fields : (targets : Targets) (own : List Domain) (d : Definition) (p : Bool) (ns : List Node) → AllCarried targets own field_denoter ns →
      IsCarriedType targets own (option_map (λ (r : Row). record { shape = RecordType d p r.fields; domains = r.domains }) (row_of ns))
  pub alone : (targets : Targets) (own : List Domain) (t : Shape) → leads_nowhere t ≡ true → IsCarried targets own (typed t)
  -- and where all types of a block are, so are the domains that its type part carries along
  pub block : (targets : Targets) (own : List Domain) (ds : List (List ℕ × Meaning)) → AllTypesCarried targets own ds →
      AllAgreeApart targets own (carried ds) × AllHostsLeadNowhere (carried ds) × AllHostsLeadNowhere (own_domains ds)

-- behind the type part of a block the name of one of its types is carried, for the blocks in it too, whatever their own types are
pub record ClosesLaw : Type 0 where
  pub types : (targets : Targets) (own : List Domain) (l : Local) (n : List ℕ) (m : Meaning) → FitsBlock targets l → entry_of (close_types l).known n ≡ Some m → is_type_class m.class ≡ true →
      IsCarriedFound targets own n (Here m)

-- a type is good with these domains, if it is known
abbrev pub IsGoodWith : Targets → List Domain → Option Typed → Type 0
IsGoodWith targets all None = Unit {0}
IsGoodWith targets all (Some t) = IsGood targets (record { shape = t.shape; domains = all })

-- the types of some declarations are good, where all of them have these domains
abbrev pub AllGoodWith : Targets → List Domain → List (List ℕ × Meaning) → Type 0
AllGoodWith targets all [] = Unit {0}
AllGoodWith targets all (d ∷ ds) = IsGoodWith targets all d.1.type × AllGoodWith targets all ds

-- what is carried is good by itself, for the targets alone; and so are the types of a type part, each with all of them and all that they carry along
pub record TogetherLaw : Type 0 where
  pub good : (targets : Targets) (t : Typed) → IsCarried targets [] t → IsGood targets t
  -- before the targets of the blocks around
  pub together : (targets : Targets) (ds : List (List ℕ × Meaning)) → AllTypesCarried targets (own_domains ds) ds →
      AllGoodWith (with_types (own_domains ds) targets) (own_domains ds ++ carried ds) ds
  -- so it is with what a name means
  pub named : (targets : Targets) (ds : List (List ℕ × Meaning)) → AllTypesCarried targets (own_domains ds) ds → (n : List ℕ) (m : Meaning) → entry_of ds n ≡ Some m →
      is_type_class m.class ≡ true → (t : Typed) → m.type ≡ Some t → IsGood (with_types (own_domains ds) targets) (record { shape = t.shape; domains = own_domains ds ++ carried ds })
