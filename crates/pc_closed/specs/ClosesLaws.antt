-- Behind the type part of a block its types are carried.
use Rattle.std.proofs.Common.{◌≡◌, ℕ, Bool, true, false, if◌then◌else◌, List, [], ◌∷◌, ◌++◌, Option, Some, None, option_map, map, refl, sym, ◌∙◌, ap, subst}
use Rattle.std.proofs.lemmas.Bool.{true≢false, false_from_ne_true, or_left}
use Rattle.std.proofs.lemmas.Slice.Eq.{bytes_eq-Decides}
use Rattle.std.specs.Str.{bytes_eq}
use Rattle.pc_types.specs.Shapes.{Shape, Domain, Typed}
use Rattle.pc_types.specs.Domains.{is_domain, domain_in, stands_in, reached, closed}
use Rattle.pc_rules.specs.ClosedTypes.{own_domains, carried, close_type, close_types}
use Rattle.pc_rules.specs.Meanings.{Meaning, Local, Here, entry_of}
use Rattle.pc_rules.specs.NameClasses.{is_type_class}
use Rattle.pc_pointers.specs.Good.{Targets}
use Rattle.pc_closed.specs.PlaceLaws.{is_domain-tells, is_domain-self, stands-next}
use Rattle.pc_closed.specs.Settled.{HostsLeadNowhere, HostsLeadNowhereIfAny, AllHostsLeadNowhere, AllAgree, AllAgreeApart, IsSettledType, AllTypesSettled, FitsBlock}
use Rattle.pc_closed.specs.Carried.{IsCarriedType, IsCarriedFound, ClosesLaw, shape_if_any}
use Rattle.pc_closed.specs.LeadLaws.{hosts-from, closed-tells}
use Rattle.pc_closed.specs.ClosedLaws.{hosts-both, block-settled}
use Rattle.pc_closed.specs.ApartLaws.{leads-apart, lead-apart}
use Rattle.pc_closed.specs.WalkLaws.{reached-law}

-- ---- hosts

-- the subranges in a type, and in what is reached from it, are of hosts without pointers
abbrev HostsOfType : Option Typed → Type 0
HostsOfType None = Unit {0}
HostsOfType (Some t) = HostsLeadNowhere t.shape × AllHostsLeadNowhere t.domains

closed-hosts : (table : List Domain) (t : Option Shape) → HostsLeadNowhereIfAny t → AllHostsLeadNowhere table → HostsOfType (closed table t)
closed-hosts table None h k = tt
closed-hosts table (Some t) h k = by (closed table (Some t)) refl where
  by : (r : Option Typed) → closed table (Some t) ≡ r → HostsOfType r
  by None e = tt
  by (Some typed) e = subst (λ (x : Typed). HostsOfType (Some x)) (closed-tells table t typed e).1 (h, hosts-from table (reached table t) k (reached-law.all table t).from)

-- ---- the declaration of a name

-- a declaration of a type, with what holds of its type
abbrev IsTold : Targets → Meaning → Type 0
IsTold targets m = is_type_class m.class ≡ true → IsSettledType targets m.type × HostsOfType m.type

-- of the first declaration of a name
told-at : (targets : Targets) (table : List Domain) (ds : List (List ℕ × Meaning)) (n : List ℕ) (m : Meaning) → AllTypesSettled targets (map (close_type table) ds) → AllHostsLeadNowhere (own_domains ds) →
    AllHostsLeadNowhere table → entry_of (map (close_type table) ds) n ≡ Some m → IsTold targets m
told-at targets table [] n m s h k e = cc e
told-at targets table (d ∷ ds) n m s h k e =
    here (λ q. told-at targets table ds n m s.1 (own-first (is_type_class d.1.class) h) k q) (bytes_eq (close_type table d).0 n) e where
      own-first : (b : Bool) → AllHostsLeadNowhere (if b then record { owner = d.1.owner; name = d.0; shape = option_map (λ (t : Typed). t.shape) d.1.type } ∷ own_domains ds else own_domains ds) →
          AllHostsLeadNowhere (own_domains ds)
      own-first true g = g.1
      own-first false g = g

      hosts : (b : Bool) → is_type_class d.1.class ≡ b →
          AllHostsLeadNowhere (if b then record { owner = d.1.owner; name = d.0; shape = option_map (λ (t : Typed). t.shape) d.1.type } ∷ own_domains ds else own_domains ds) →
          is_type_class (if b then (d.0, record d.1 { type = closed table (option_map (λ (t : Typed). t.shape) d.1.type) }) else d).1.class ≡ true →
          HostsOfType (if b then (d.0, record d.1 { type = closed table (option_map (λ (t : Typed). t.shape) d.1.type) }) else d).1.type
      hosts true q g c = closed-hosts table (option_map (λ (t : Typed). t.shape) d.1.type) g.0 k
      hosts false q g c = absurd (true≢false (sym c ∙ q))

      here : (entry_of (map (close_type table) ds) n ≡ Some m → IsTold targets m) → (b : Bool) → (if b then Some (close_type table d).1 else entry_of (map (close_type table) ds) n) ≡ Some m → IsTold targets m
      here rest true q = let one : (close_type table d).1 ≡ m = cc q in subst (IsTold targets) one (λ c. (s.0 c, hosts (is_type_class d.1.class) refl h c))
      here rest false q = rest q

-- the first declaration of a name is what its place has among the types
first-is : (ds : List (List ℕ × Meaning)) (n : List ℕ) (m : Meaning) → entry_of ds n ≡ Some m → is_type_class m.class ≡ true →
    (stands_in (own_domains ds) m.owner n ≡ true) × (domain_in (own_domains ds) m.owner n ≡ shape_if_any m.type)
first-is [] n m e c = cc e
first-is (d ∷ ds) n m e c = here (λ q. first-is ds n m q c) (bytes_eq d.0 n) refl e where
  other : (b : Bool) → bytes_eq d.0 n ≡ false → (stands_in (own_domains ds) m.owner n ≡ true) × (domain_in (own_domains ds) m.owner n ≡ shape_if_any m.type) →
      (stands_in (if b then record { owner = d.1.owner; name = d.0; shape = option_map (λ (t : Typed). t.shape) d.1.type } ∷ own_domains ds else own_domains ds) m.owner n ≡ true) ×
      (domain_in (if b then record { owner = d.1.owner; name = d.0; shape = option_map (λ (t : Typed). t.shape) d.1.type } ∷ own_domains ds else own_domains ds) m.owner n ≡ shape_if_any m.type)
  other true q h =
      let x : Domain = record { owner = d.1.owner; name = d.0; shape = option_map (λ (t : Typed). t.shape) d.1.type } in
      let no_place : is_domain m.owner n x ≡ false = false_from_ne_true (is_domain m.owner n x) (λ t. let p = is_domain-tells m.owner n x t in true≢false (sym ((bytes_eq-Decides d.0 n).1 (sym p.1)) ∙ q)) in
      (stands-next x (own_domains ds) m.owner n h.0, ap (λ (b : Bool). if b then x.shape else domain_in (own_domains ds) m.owner n) no_place ∙ h.1)
  other false q h = h

  one : (b : Bool) → is_type_class d.1.class ≡ b → is_type_class d.1.class ≡ true → d.0 ≡ n →
      (stands_in (if b then record { owner = d.1.owner; name = d.0; shape = option_map (λ (t : Typed). t.shape) d.1.type } ∷ own_domains ds else own_domains ds) d.1.owner n ≡ true) ×
      (domain_in (if b then record { owner = d.1.owner; name = d.0; shape = option_map (λ (t : Typed). t.shape) d.1.type } ∷ own_domains ds else own_domains ds) d.1.owner n ≡ shape_if_any d.1.type)
  one true q t w =
      let x : Domain = record { owner = d.1.owner; name = d.0; shape = option_map (λ (t : Typed). t.shape) d.1.type } in
      let at : is_domain d.1.owner n x ≡ true = subst (λ (v : List ℕ). is_domain d.1.owner v x ≡ true) w (is_domain-self x) in
      (or_left (is_domain d.1.owner n x) (stands_in (own_domains ds) d.1.owner n) at, ap (λ (b : Bool). if b then x.shape else domain_in (own_domains ds) d.1.owner n) at)
  one false q t w = absurd (true≢false (sym t ∙ q))

  here : (entry_of ds n ≡ Some m → (stands_in (own_domains ds) m.owner n ≡ true) × (domain_in (own_domains ds) m.owner n ≡ shape_if_any m.type)) → (b : Bool) → bytes_eq d.0 n ≡ b →
      (if b then Some d.1 else entry_of ds n) ≡ Some m →
      (stands_in (own_domains (d ∷ ds)) m.owner n ≡ true) × (domain_in (own_domains (d ∷ ds)) m.owner n ≡ shape_if_any m.type)
  here rest true q g =
      let same : d.1 ≡ m = cc g in
      let class : is_type_class d.1.class ≡ true = ap (λ (x : Meaning). is_type_class x.class) same ∙ c in
      subst (λ (x : Meaning). (stands_in (own_domains (d ∷ ds)) x.owner n ≡ true) × (domain_in (own_domains (d ∷ ds)) x.owner n ≡ shape_if_any x.type)) same
      (one (is_type_class d.1.class) refl class ((bytes_eq-Decides d.0 n).0 q))
  here rest false q g = other (is_type_class d.1.class) q (rest g)

-- ---- the law

apart-from : (targets : Targets) (own ds : List Domain) → AllAgree targets ds → AllAgreeApart targets own ds
apart-from targets own [] h = tt
apart-from targets own (d ∷ ds) h = ((λ s. h.0), apart-from targets own ds h.1)

carried-from : (targets : Targets) (own : List Domain) (t : Option Typed) → IsSettledType targets t → HostsOfType t → IsCarriedType targets own t
carried-from targets own None s h = tt
carried-from targets own (Some t) s h = record {
  others = apart-from targets own t.domains s.agree;
  hosts = h.0;
  further = h.1;
  leads = leads-apart targets own t.domains t.shape s.good.leads;
  lead = lead-apart targets own t.domains t.domains s.good.reached;
}

types-carried : (targets : Targets) (own : List Domain) (l : Local) (n : List ℕ) (m : Meaning) → FitsBlock targets l → entry_of (close_types l).known n ≡ Some m → is_type_class m.class ≡ true →
    IsCarriedFound targets own n (Here m)
types-carried targets own l n m f e c =
    let told = told-at targets (own_domains l.known ++ carried l.known) l.known n m (block-settled targets l f) f.own_hosts (hosts-both (own_domains l.known) (carried l.known) f.own_hosts f.other_hosts) e c in
    let first = first-is (close_types l).known n m e c in
    (carried-from targets own m.type told.0 told.1, λ s. sym (f.tells m.owner n first.0 ∙ first.1))

-- this holds
pub closes-law : ClosesLaw
closes-law = record { types = types-carried }
