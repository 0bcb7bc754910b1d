-- What denoters make of their parts carries domains of other blocks that agree with the targets.
use Rattle.std.proofs.Common.{◌≡◌, ℕ, suc, Bool, true, false, if◌then◌else◌, List, [], ◌∷◌, Option, Some, None, option_map, codes, refl, sym, ◌∙◌, ap}
use Rattle.std.proofs.lemmas.Bool.{true≢false}
use Rattle.std.specs.Option.{option_and_then}
use Rattle.std.specs.Str.{bytes_eq}
use Rattle.pc_types.specs.Shapes.{Owner, Keyed, Definition, Shape, IntegerType, BooleanType, CharType, NilType, NoMembers, MembersType, TextType, EnumeratedType, SubrangeType, ArrayType, RecordType, SetType, PointerType, Domain, Typed}
use Rattle.pc_types.specs.Domains.{domain_in, stands_in}
use Rattle.pc_types.specs.TypeClasses.{is_ordinal}
use Rattle.pc_rules.specs.Attributes.{Node}
use Rattle.pc_rules.specs.ClosedTypes.{own_domains, domains_of, carried}
use Rattle.pc_rules.specs.Denoters.{type_of_found, bounded, subrange_of, pointer_to, typed, domains_behind, defined_here}
use Rattle.pc_rules.specs.Meanings.{Class, Constant, Ordinal, Chars, Meaning, Value, Found, Here, Later, Component, Required, Missing, Local}
use Rattle.pc_rules.specs.NameClasses.{is_type_class}
use Rattle.pc_rules.specs.RequiredMeanings.{required_type}
use Rattle.pc_rules.specs.StructuredTypes.{arrays, numbered}
use Rattle.pc_pointers.specs.Good.{Targets}
use Rattle.pc_closed.specs.Settled.{leads_nowhere, HostsLeadNowhere, HostsLeadNowhereIfAny, AllHostsLeadNowhere, AllAgreeApart}
use Rattle.pc_closed.specs.PlaceLaws.{is_domain-self, stands-next}
use Rattle.pc_closed.specs.ApartLaws.{leads-wider, all-wider, nowhere-hosts, nowhere-apart}
use Rattle.pc_closed.specs.RecordLaws.{apart-both, hosts-append, record-carried}
use Rattle.pc_closed.specs.Carried.{IsCarried, IsCarriedType, IsCarriedFound, AllTypesCarried, CarriedLaw, shape_if_any}

-- one of two types
either-carried : (targets : Targets) (own : List Domain) (b : Bool) (t u : Option Typed) → IsCarriedType targets own t → IsCarriedType targets own u → IsCarriedType targets own (if b then t else u)
either-carried targets own true t u h g = h
either-carried targets own false t u h g = g

-- a type without pointers
alone-carried : (targets : Targets) (own : List Domain) (t : Shape) → leads_nowhere t ≡ true → IsCarried targets own (typed t)
alone-carried targets own t e = record { others = tt; hosts = nowhere-hosts t e; further = tt; leads = nowhere-apart targets own [] t e; lead = tt }

-- ---- names and pointers

-- the required types have no pointers
required-type : (targets : Targets) (own : List Domain) (n : List ℕ) → IsCarriedType targets own (option_map typed (required_type n))
required-type targets own n = by (bytes_eq n (codes "integer")) (bytes_eq n (codes "boolean")) (bytes_eq n (codes "char")) where
  by : (a b c : Bool) → IsCarriedType targets own (option_map typed (if a then Some IntegerType else if b then Some BooleanType else if c then Some CharType else None))
  by true b c = alone-carried targets own IntegerType refl
  by false true c = alone-carried targets own BooleanType refl
  by false false true = alone-carried targets own CharType refl
  by false false false = tt

name-carried : (targets : Targets) (own : List Domain) (n : List ℕ) (f : Found) → IsCarriedFound targets own n f → IsCarriedType targets own (type_of_found f)
name-carried targets own n (Here m) h = either-carried targets own (is_type_class m.class) m.type None h.0 tt
name-carried targets own n (Required r) h = required-type targets own r
name-carried targets own n (Later c) h = tt
name-carried targets own n (Component t p) h = tt
name-carried targets own n Missing h = tt

-- what a domain leads to, where it stands first
first-leads : (targets : Targets) (own rest : List Domain) (d : Domain) → (stands_in own d.owner d.name ≡ false → d.shape ≡ targets d.owner d.name) → stands_in own d.owner d.name ≡ false →
    domain_in (d ∷ rest) d.owner d.name ≡ targets d.owner d.name
first-leads targets own rest d e s = ap (λ (b : Bool). if b then d.shape else domain_in rest d.owner d.name) (is_domain-self d) ∙ e s

-- a domain, and what is reached from it
behind-carried : (targets : Targets) (own : List Domain) (d : Definition) (o : Owner) (n : List ℕ) (t : Option Typed) → IsCarriedType targets own t →
    (stands_in own o n ≡ false → shape_if_any t ≡ targets o n) → IsCarried targets own (record { shape = PointerType d o n; domains = domains_behind o n t })
behind-carried targets own d o n None h e =
    record { others = (e, tt); hosts = tt; further = (tt, tt); leads = first-leads targets own [] (record { owner = o; name = n; shape = None }) e; lead = (tt, tt) }
behind-carried targets own d o n (Some t) h e =
    let first : Domain = record { owner = o; name = n; shape = Some t.shape } in
    let apart : AllAgreeApart targets own (first ∷ t.domains) = (e, h.others) in
    let within = stands-next first t.domains in
    record {
      others = apart;
      hosts = tt;
      further = (h.hosts, h.further);
      leads = first-leads targets own t.domains first e;
      lead = (leads-wider targets own t.domains (first ∷ t.domains) t.shape apart within h.leads, all-wider targets own t.domains (first ∷ t.domains) t.domains apart within h.lead);
    }

required-domain : (t : Option Shape) → shape_if_any (option_map typed t) ≡ t
required-domain None = refl
required-domain (Some t) = refl

pointer-carried : (targets : Targets) (own : List Domain) (l : Local) (n : List ℕ) (f : Found) → IsCarriedFound targets own n f →
    ((c : Class) → f ≡ Later c → stands_in own l.owner n ≡ false → targets l.owner n ≡ None) → IsCarriedType targets own (pointer_to l n f)
pointer-carried targets own l n (Here m) h k = behind-carried targets own (defined_here l) m.owner n m.type h.0 h.1
pointer-carried targets own l n (Later c) h k = record { others = tt; hosts = tt; further = tt; leads = λ s. sym (k c refl s); lead = tt }
pointer-carried targets own l n (Required r) h k =
    behind-carried targets own (defined_here l) (Keyed []) n (option_map typed (required_type n)) (required-type targets own n) (λ s. required-domain (required_type n) ∙ h s)
pointer-carried targets own l n (Component t p) h k = tt
pointer-carried targets own l n Missing h k = tt

-- ---- subranges

ordinal-nowhere : (t : Shape) → is_ordinal t ≡ true → HostsLeadNowhere t → leads_nowhere t ≡ true
ordinal-nowhere (SubrangeType d t a b) e h = h
ordinal-nowhere (ArrayType d p i t) e h = absurd (true≢false (sym e))
ordinal-nowhere (RecordType d p fs) e h = absurd (true≢false (sym e))
ordinal-nowhere (PointerType d o n) e h = absurd (true≢false (sym e))
ordinal-nowhere IntegerType e h = refl
ordinal-nowhere BooleanType e h = refl
ordinal-nowhere CharType e h = refl
ordinal-nowhere NilType e h = refl
ordinal-nowhere NoMembers e h = refl
ordinal-nowhere (MembersType b) e h = refl
ordinal-nowhere (TextType n) e h = refl
ordinal-nowhere (EnumeratedType d ns) e h = refl
ordinal-nowhere (SetType d p b) e h = refl

bounded-carried : (targets : Targets) (own : List Domain) (d : Definition) (t : Shape) (a b : Constant) → leads_nowhere t ≡ true → IsCarriedType targets own (option_map typed (bounded d t a b))
bounded-carried targets own d t (Ordinal a) (Ordinal b) e = record { others = tt; hosts = e; further = tt; leads = tt; lead = tt }
bounded-carried targets own d t (Ordinal a) (Chars b) e = tt
bounded-carried targets own d t (Chars a) (Ordinal b) e = tt
bounded-carried targets own d t (Chars a) (Chars b) e = tt

subrange-carried : (targets : Targets) (own : List Domain) (d : Definition) (a b : Value) → is_ordinal a.type ≡ true → HostsLeadNowhere a.type → IsCarriedType targets own (option_map typed (subrange_of d a b))
subrange-carried targets own d a b e h = bounded-carried targets own d a.type a.constant b.constant (ordinal-nowhere a.type e h)

-- ---- arrays

around-carried : (targets : Targets) (own : List Domain) (d : Definition) (p : Bool) (x : Shape) (inner : Option Typed) → IsCarriedType targets own inner →
    IsCarriedType targets own (option_map (λ (t : Typed). record { shape = ArrayType d p x t.shape; domains = t.domains }) inner)
around-carried targets own d p x None h = tt
around-carried targets own d p x (Some t) h = record { others = h.others; hosts = h.hosts; further = h.further; leads = h.leads; lead = h.lead }

indexed-carried : (targets : Targets) (own : List Domain) (d : Definition) (p : Bool) (x : Option Typed) (inner : Option Typed) → IsCarriedType targets own inner →
    IsCarriedType targets own (option_and_then (λ (i : Typed). option_map (λ (t : Typed). record { shape = ArrayType d p i.shape t.shape; domains = t.domains }) inner) x)
indexed-carried targets own d p None inner h = tt
indexed-carried targets own d p (Some i) inner h = around-carried targets own d p i.shape inner h

array-carried : (targets : Targets) (own : List Domain) (d : Definition) (i : ℕ) (p : Bool) (indexes : List Node) (e : Typed) → IsCarried targets own e → IsCarriedType targets own (arrays d i p indexes e)
array-carried targets own d i p [] e h = h
array-carried targets own d i p (index ∷ rest) e h = indexed-carried targets own (numbered d i) p index.as_value.type (arrays d (suc i) p rest e) (array-carried targets own d (suc i) p rest e h)

-- ---- a block

type-others : (targets : Targets) (own : List Domain) (t : Option Typed) → IsCarriedType targets own t → AllAgreeApart targets own (domains_of t) × AllHostsLeadNowhere (domains_of t)
type-others targets own None h = (tt, tt)
type-others targets own (Some t) h = (h.others, h.further)

type-hosts : (targets : Targets) (own : List Domain) (t : Option Typed) → IsCarriedType targets own t → HostsLeadNowhereIfAny (shape_if_any t)
type-hosts targets own None h = tt
type-hosts targets own (Some t) h = h.hosts

pub block-carried : (targets : Targets) (own : List Domain) (ds : List (List ℕ × Meaning)) → AllTypesCarried targets own ds →
    AllAgreeApart targets own (carried ds) × AllHostsLeadNowhere (carried ds) × AllHostsLeadNowhere (own_domains ds)
block-carried targets own [] h = (tt, tt, tt)
block-carried targets own (d ∷ ds) h =
    let rest = block-carried targets own ds h.1 in
    let here = type-others targets own d.1.type h.0 in
    (apart-both targets own (domains_of d.1.type) (carried ds) here.0 rest.0, hosts-append (domains_of d.1.type) (carried ds) here.1 rest.1, by (is_type_class d.1.class) rest.2) where
      by : (b : Bool) → AllHostsLeadNowhere (own_domains ds) →
          AllHostsLeadNowhere (if b then record { owner = d.1.owner; name = d.0; shape = option_map (λ (t : Typed). t.shape) d.1.type } ∷ own_domains ds else own_domains ds)
      by true rest = (type-hosts targets own d.1.type h.0, rest)
      by false rest = rest

-- these hold
pub carried-law : CarriedLaw
carried-law = record {
  name = name-carried;
  pointer = pointer-carried;
  subrange = subrange-carried;
  array = array-carried;
  fields = record-carried;
  alone = alone-carried;
  block = block-carried;
}
