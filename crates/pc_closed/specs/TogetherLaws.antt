-- The types of a type part, each with all of them and all that they carry along, are good before the targets of the blocks around.
use Rattle.std.proofs.Common.{◌≡◌, ℕ, Bool, true, false, if◌then◌else◌, List, [], ◌∷◌, ◌++◌, Option, Some, None, option_map, refl, sym, ◌∙◌, subst}
use Rattle.std.specs.Str.{bytes_eq}
use Rattle.pc_types.specs.Shapes.{Owner, Shape, IntegerType, BooleanType, CharType, NilType, NoMembers, MembersType, TextType, EnumeratedType, SubrangeType, ArrayType, RecordType, SetType, PointerType, Fields, LastField, FieldOf, Domain, Typed}
use Rattle.pc_types.specs.Domains.{domain_in, stands_in}
use Rattle.pc_rules.specs.ClosedTypes.{own_domains, domains_of, carried}
use Rattle.pc_rules.specs.Meanings.{Meaning, entry_of}
use Rattle.pc_rules.specs.NameClasses.{is_type_class}
use Rattle.pc_pointers.specs.Good.{Targets, Leads, LeadFields, LeadsIfAny, LeadAll, IsGood}
use Rattle.pc_closed.specs.Reached.{Covers}
use Rattle.pc_closed.specs.PlaceLaws.{domain-front, domain-back, stands-front, stands-back}
use Rattle.pc_closed.specs.LeadLaws.{nowhere-leads}
use Rattle.pc_closed.specs.Settled.{HostsLeadNowhere, FieldHostsLeadNowhere, HostsLeadNowhereIfAny, AllHostsLeadNowhere, AllAgreeApart, with_types}
use Rattle.pc_closed.specs.BlockLaws.{with-tells, with-elsewhere}
use Rattle.pc_closed.specs.ClosedLaws.{hosts-both}
use Rattle.pc_closed.specs.Carried.{LeadsApart, FieldsLeadApart, LeadsApartIfAny, AllLeadApart, IsCarried, IsCarriedType, AllTypesCarried, IsGoodWith, AllGoodWith, TogetherLaw, shape_if_any}
use Rattle.pc_closed.specs.ApartLaws.{leads-wider, all-wider, lead-both}
use Rattle.pc_closed.specs.CarriedLaws.{block-carried}

-- ---- the own types before other domains

-- at an own place stands the own type, and elsewhere what the other domains have there
place-together : (targets : Targets) (own more : List Domain) (o : Owner) (n : List ℕ) → (stands_in own o n ≡ false → domain_in more o n ≡ targets o n) →
    domain_in (own ++ more) o n ≡ with_types own targets o n
place-together targets own more o n h = by (stands_in own o n) refl where
  by : (b : Bool) → stands_in own o n ≡ b → domain_in (own ++ more) o n ≡ with_types own targets o n
  by true e = domain-front own more o n e ∙ sym (with-tells own targets o n e)
  by false e = domain-back own more o n e ∙ h e ∙ sym (with-elsewhere own targets o n e)

mutual
  leads-together : (targets : Targets) (own more : List Domain) (t : Shape) → HostsLeadNowhere t → LeadsApart targets own more t → Leads (own ++ more) (with_types own targets) t
  leads-together targets own more (PointerType d o n) k h = place-together targets own more o n h
  leads-together targets own more (ArrayType d p i t) k h = leads-together targets own more t k h
  leads-together targets own more (RecordType d p fs) k h = fields-together targets own more fs k h
  leads-together targets own more (SubrangeType d t x y) k h = nowhere-leads [] (with_types own targets) t k
  leads-together targets own more IntegerType k h = tt
  leads-together targets own more BooleanType k h = tt
  leads-together targets own more CharType k h = tt
  leads-together targets own more NilType k h = tt
  leads-together targets own more NoMembers k h = tt
  leads-together targets own more (MembersType b) k h = tt
  leads-together targets own more (TextType n) k h = tt
  leads-together targets own more (EnumeratedType d ns) k h = tt
  leads-together targets own more (SetType d p b) k h = tt

  fields-together : (targets : Targets) (own more : List Domain) (fs : Fields) → FieldHostsLeadNowhere fs → FieldsLeadApart targets own more fs → LeadFields (own ++ more) (with_types own targets) fs
  fields-together targets own more LastField k h = tt
  fields-together targets own more (FieldOf n t fs) k h = (leads-together targets own more t k.0 h.0, fields-together targets own more fs k.1 h.1)

option-together : (targets : Targets) (own more : List Domain) (t : Option Shape) → HostsLeadNowhereIfAny t → LeadsApartIfAny targets own more t → LeadsIfAny (own ++ more) (with_types own targets) t
option-together targets own more None k h = tt
option-together targets own more (Some t) k h = leads-together targets own more t k h

all-together : (targets : Targets) (own more ds : List Domain) → AllHostsLeadNowhere ds → AllLeadApart targets own more ds → LeadAll (own ++ more) (with_types own targets) ds
all-together targets own more [] k h = tt
all-together targets own more (d ∷ ds) k h = (option-together targets own more d.shape k.0 h.0, all-together targets own more ds k.1 h.1)

-- by itself, for the targets alone
carried-good : (targets : Targets) (t : Typed) → IsCarried targets [] t → IsGood targets t
carried-good targets t h = record { leads = leads-together targets [] t.domains t.shape h.hosts h.leads; reached = all-together targets [] t.domains t.domains h.further h.lead }

-- ---- the types of a type part

-- a type, by all that is carried along
type-lead : (targets : Targets) (own all : List Domain) (t : Option Typed) → AllAgreeApart targets own all → Covers all (domains_of t) → IsCarriedType targets own t →
    LeadsApartIfAny targets own all (shape_if_any t) × AllLeadApart targets own all (domains_of t)
type-lead targets own all None a c h = (tt, tt)
type-lead targets own all (Some t) a c h = (leads-wider targets own t.domains all t.shape a c h.leads, all-wider targets own t.domains all t.domains a c h.lead)

types-lead : (targets : Targets) (own all : List Domain) (ds : List (List ℕ × Meaning)) → AllAgreeApart targets own all → Covers all (carried ds) → AllTypesCarried targets own ds →
    AllLeadApart targets own all (own_domains ds) × AllLeadApart targets own all (carried ds)
types-lead targets own all [] a c h = (tt, tt)
types-lead targets own all (d ∷ ds) a c h =
    let here = type-lead targets own all d.1.type a (λ o n e. c o n (stands-front (domains_of d.1.type) (carried ds) o n e)) h.0 in
    let rest = types-lead targets own all ds a (λ o n e. c o n (stands-back (domains_of d.1.type) (carried ds) o n e)) h.1 in
    (by (is_type_class d.1.class) here.0 rest.0, lead-both targets own all (domains_of d.1.type) (carried ds) here.1 rest.1) where
      by : (b : Bool) → LeadsApartIfAny targets own all (shape_if_any d.1.type) → AllLeadApart targets own all (own_domains ds) →
          AllLeadApart targets own all (if b then record { owner = d.1.owner; name = d.0; shape = option_map (λ (t : Typed). t.shape) d.1.type } ∷ own_domains ds else own_domains ds)
      by true here rest = (here, rest)
      by false here rest = rest

-- a type is good with all domains, where the shapes of these lead to what the targets say
type-together : (targets : Targets) (own more : List Domain) (t : Option Typed) → AllAgreeApart targets own more → Covers more (domains_of t) → IsCarriedType targets own t →
    LeadAll (own ++ more) (with_types own targets) (own ++ more) → IsGoodWith (with_types own targets) (own ++ more) t
type-together targets own more None a c h g = tt
type-together targets own more (Some t) a c h g = record { leads = leads-together targets own more t.shape h.hosts (leads-wider targets own t.domains more t.shape a c h.leads); reached = g }

types-together : (targets : Targets) (own more : List Domain) (ds : List (List ℕ × Meaning)) → AllAgreeApart targets own more → Covers more (carried ds) → AllTypesCarried targets own ds →
    LeadAll (own ++ more) (with_types own targets) (own ++ more) → AllGoodWith (with_types own targets) (own ++ more) ds
types-together targets own more [] a c h g = tt
types-together targets own more (d ∷ ds) a c h g = (
  type-together targets own more d.1.type a (λ o n e. c o n (stands-front (domains_of d.1.type) (carried ds) o n e)) h.0 g,
  types-together targets own more ds a (λ o n e. c o n (stands-back (domains_of d.1.type) (carried ds) o n e)) h.1 g,
)

all-good : (targets : Targets) (ds : List (List ℕ × Meaning)) → AllTypesCarried targets (own_domains ds) ds → AllGoodWith (with_types (own_domains ds) targets) (own_domains ds ++ carried ds) ds
all-good targets ds h =
    let own = own_domains ds in
    let more = carried ds in
    let b = block-carried targets own ds h in
    let lead = types-lead targets own more ds b.0 (λ o n e. e) h in
    let both = lead-both targets own more own more lead.0 lead.1 in
    types-together targets own more ds b.0 (λ o n e. e) h (all-together targets own more (own ++ more) (hosts-both own more b.2 b.1) both)

-- ---- what a name means

entry-good : (targets : Targets) (all : List Domain) (ds : List (List ℕ × Meaning)) (n : List ℕ) (m : Meaning) → AllGoodWith targets all ds → entry_of ds n ≡ Some m → IsGoodWith targets all m.type
entry-good targets all [] n m h e = absurd (cc e)
entry-good targets all (d ∷ ds) n m h e = by (entry-good targets all ds n m h.1) (bytes_eq d.0 n) e where
  by : (entry_of ds n ≡ Some m → IsGoodWith targets all m.type) → (b : Bool) → (if b then Some d.1 else entry_of ds n) ≡ Some m → IsGoodWith targets all m.type
  by rest true e = let same : d.1 ≡ m = cc e in subst (λ (x : Meaning). IsGoodWith targets all x.type) same h.0
  by rest false e = rest e

named-good : (targets : Targets) (ds : List (List ℕ × Meaning)) → AllTypesCarried targets (own_domains ds) ds → (n : List ℕ) (m : Meaning) → entry_of ds n ≡ Some m →
    is_type_class m.class ≡ true → (t : Typed) → m.type ≡ Some t → IsGood (with_types (own_domains ds) targets) (record { shape = t.shape; domains = own_domains ds ++ carried ds })
named-good targets ds h n m e c t q =
    let all = own_domains ds ++ carried ds in
    subst (λ (x : Option Typed). IsGoodWith (with_types (own_domains ds) targets) all x) q (entry-good (with_types (own_domains ds) targets) all ds n m (all-good targets ds h) e)

-- these hold
pub together-law : TogetherLaw
together-law = record { good = carried-good; together = all-good; named = named-good }
