-- Closed types are settled: their pointers lead to what the targets say.
use Rattle.std.proofs.Common.{◌≡◌, ℕ, Bool, true, false, ◌||◌, if◌then◌else◌, List, [], ◌∷◌, ◌++◌, Option, Some, None, option_map, map, refl, sym, ◌∙◌, ap, subst}
use Rattle.std.proofs.lemmas.Bool.{true≢false}
use Rattle.pc_types.specs.Shapes.{Owner, Shape, Domain, Typed}
use Rattle.pc_types.specs.Domains.{is_domain, domain_in, stands_in, reached, is_whole, all_whole, closed}
use Rattle.pc_rules.specs.ClosedTypes.{own_domains, carried, close_type, close_types}
use Rattle.pc_rules.specs.Meanings.{Meaning, Local}
use Rattle.pc_rules.specs.NameClasses.{is_type_class}
use Rattle.pc_pointers.specs.Good.{Targets}
use Rattle.pc_closed.specs.PlaceLaws.{is_domain-tells, stands-moved, whole-stands, domain-front, domain-back}
use Rattle.pc_closed.specs.Settled.{HostsLeadNowhere, HostsLeadNowhereIfAny, AllHostsLeadNowhere, AllAgree, AllAgreeApart, IsSettled, IsSettledType, AllTypesSettled, FitsBlock}
use Rattle.pc_closed.specs.LeadLaws.{settled, reached-whole, whole-below, closed-tells}

-- what the targets say of a place that is reached is what the table does
abbrev Same : List Domain → Targets → Shape → Type 0
Same table targets t = (o : Owner) (n : List ℕ) → stands_in (reached table t) o n ≡ true → domain_in table o n ≡ targets o n

-- a closed type is settled, where the targets say what the table does once all that is reached is whole
pub closed-settled : (table : List Domain) (targets : Targets) (t : Shape) (typed : Typed) → HostsLeadNowhere t → AllHostsLeadNowhere table →
    (all_whole (reached table t) ≡ true → (o : Owner) (n : List ℕ) → stands_in (reached table t) o n ≡ true → domain_in table o n ≡ targets o n) →
    closed table (Some t) ≡ Some typed → IsSettled targets typed
closed-settled table targets t typed h k same e =
    let c = closed-tells table t typed e in
    subst (λ (x : Typed). IsSettled targets x) c.1 (settled table targets t h k (same c.0))

-- the same of a closed type that may be unknown
pub closed-settled-type : (table : List Domain) (targets : Targets) (t : Option Shape) → HostsLeadNowhereIfAny t →
    ((s : Shape) (typed : Typed) → HostsLeadNowhere s → closed table (Some s) ≡ Some typed → IsSettled targets typed) → IsSettledType targets (closed table t)
closed-settled-type table targets None h f = tt
closed-settled-type table targets (Some t) h f = by (closed table (Some t)) refl where
  by : (r : Option Typed) → closed table (Some t) ≡ r → IsSettledType targets r
  by None e = tt
  by (Some typed) e = f t typed h e

-- ---- the table's own targets, and targets that say what the table does

pub alone-settled : (table : List Domain) (t : Shape) (typed : Typed) → HostsLeadNowhere t → AllHostsLeadNowhere table → closed table (Some t) ≡ Some typed → IsSettled (domain_in table) typed
alone-settled table t typed h k e = closed-settled table (domain_in table) t typed h k (λ w o n s. refl) e

-- targets say the same at equal places
targets-moved : (targets : Targets) (o : Owner) (n : List ℕ) (d : Domain) → is_domain o n d ≡ true → targets o n ≡ targets d.owner d.name
targets-moved targets o n d e = let p = is_domain-tells o n d e in λ i. targets (p.0 i) (p.1 i)

-- what stands at a place is what the targets say, where each domain is
pub agree-at : (targets : Targets) (ds : List Domain) (o : Owner) (n : List ℕ) → AllAgree targets ds → stands_in ds o n ≡ true → domain_in ds o n ≡ targets o n
agree-at targets [] o n h s = absurd (true≢false (sym s))
agree-at targets (d ∷ ds) o n h s = by (agree-at targets ds o n h.1) (is_domain o n d) refl s where
  by : (stands_in ds o n ≡ true → domain_in ds o n ≡ targets o n) → (b : Bool) → is_domain o n d ≡ b → (b || stands_in ds o n) ≡ true →
      (if b then d.shape else domain_in ds o n) ≡ targets o n
  by rest true e f = h.0 ∙ sym (targets-moved targets o n d e)
  by rest false e f = rest f

pub agreeing-settled : (targets : Targets) (table : List Domain) (t : Shape) (typed : Typed) → HostsLeadNowhere t → AllHostsLeadNowhere table → AllAgree targets table →
    closed table (Some t) ≡ Some typed → IsSettled targets typed
agreeing-settled targets table t typed h k a e =
    closed-settled table targets t typed h k (λ w o n s. agree-at targets table o n a (whole-stands table o n (reached-whole table t o n w s))) e

-- ---- the types of a block

-- elsewhere what stands at a place is what the targets say
pub apart-at : (targets : Targets) (own ds : List Domain) (o : Owner) (n : List ℕ) → AllAgreeApart targets own ds → stands_in own o n ≡ false → stands_in ds o n ≡ true → domain_in ds o n ≡ targets o n
apart-at targets own [] o n h a s = absurd (true≢false (sym s))
apart-at targets own (d ∷ ds) o n h a s = by (apart-at targets own ds o n h.1 a) (is_domain o n d) refl s where
  by : (stands_in ds o n ≡ true → domain_in ds o n ≡ targets o n) → (b : Bool) → is_domain o n d ≡ b → (b || stands_in ds o n) ≡ true →
      (if b then d.shape else domain_in ds o n) ≡ targets o n
  by rest true e f = h.0 (sym (stands-moved own o n d e) ∙ a) ∙ sym (targets-moved targets o n d e)
  by rest false e f = rest f

-- the shape of a type
abbrev shape_in : Option Typed → Option Shape
shape_in t = option_map (λ (x : Typed). x.shape) t

-- the domain that a declaration is, if it is a type's
abbrev domain_of_type : List ℕ × Meaning → Domain
domain_of_type d = record { owner = d.1.owner; name = d.0; shape = shape_in d.1.type }

own-type : (d : List ℕ × Meaning) (ds : List (List ℕ × Meaning)) → is_type_class d.1.class ≡ true → own_domains (d ∷ ds) ≡ domain_of_type d ∷ own_domains ds
own-type d ds e = rw e refl

own-other : (d : List ℕ × Meaning) (ds : List (List ℕ × Meaning)) → is_type_class d.1.class ≡ false → own_domains (d ∷ ds) ≡ own_domains ds
own-other d ds e = rw e refl

close-type : (table : List Domain) (d : List ℕ × Meaning) → is_type_class d.1.class ≡ true → close_type table d ≡ (d.0, record d.1 { type = closed table (shape_in d.1.type) })
close-type table d e = rw e refl

close-other : (table : List Domain) (d : List ℕ × Meaning) → is_type_class d.1.class ≡ false → close_type table d ≡ d
close-other table d e = rw e refl

-- the domain of a closed type stands where it did, with the shape that the closed type has
own-closed-type : (table : List Domain) (d : List ℕ × Meaning) (ds : List (List ℕ × Meaning)) → is_type_class d.1.class ≡ true →
    own_domains (close_type table d ∷ ds) ≡ record { owner = d.1.owner; name = d.0; shape = shape_in (closed table (shape_in d.1.type)) } ∷ own_domains ds
own-closed-type table d ds e =
    ap (λ (x : List ℕ × Meaning). own_domains (x ∷ ds)) (close-type table d e) ∙ own-type (d.0, record d.1 { type = closed table (shape_in d.1.type) }) ds e

own-closed-other : (table : List Domain) (d : List ℕ × Meaning) (ds : List (List ℕ × Meaning)) → is_type_class d.1.class ≡ false → own_domains (close_type table d ∷ ds) ≡ own_domains ds
own-closed-other table d ds e = ap (λ (x : List ℕ × Meaning). own_domains (x ∷ ds)) (close-other table d e) ∙ own-other d ds e

-- the same places are those of the block's types before and behind
pub own-stands : (table : List Domain) (ds : List (List ℕ × Meaning)) (o : Owner) (n : List ℕ) → stands_in (own_domains (map (close_type table) ds)) o n ≡ stands_in (own_domains ds) o n
own-stands table [] o n = refl
own-stands table (d ∷ ds) o n = by (own-stands table ds o n) (is_type_class d.1.class) refl where
  by : stands_in (own_domains (map (close_type table) ds)) o n ≡ stands_in (own_domains ds) o n → (b : Bool) → is_type_class d.1.class ≡ b →
      stands_in (own_domains (close_type table d ∷ map (close_type table) ds)) o n ≡ stands_in (own_domains (d ∷ ds)) o n
  by rest true e =
      ap (λ (x : List Domain). stands_in x o n) (own-closed-type table d (map (close_type table) ds) e) ∙ ap (λ (x : Bool). is_domain o n (domain_of_type d) || x) rest ∙
      ap (λ (x : List Domain). stands_in x o n) (sym (own-type d ds e))
  by rest false e =
      ap (λ (x : List Domain). stands_in x o n) (own-closed-other table d (map (close_type table) ds) e) ∙ rest ∙ ap (λ (x : List Domain). stands_in x o n) (sym (own-other d ds e))

-- what the block's types are behind the type part
own-shape : (table : List Domain) (ds : List (List ℕ × Meaning)) (o : Owner) (n : List ℕ) →
    domain_in (own_domains (map (close_type table) ds)) o n ≡ shape_in (closed table (domain_in (own_domains ds) o n))
own-shape table [] o n = refl
own-shape table (d ∷ ds) o n = by (own-shape table ds o n) (is_type_class d.1.class) refl where
  pick : (b : Bool) (x y : Option Shape) (z : Option Shape) → z ≡ shape_in (closed table y) → (if b then shape_in (closed table x) else z) ≡ shape_in (closed table (if b then x else y))
  pick true x y z e = refl
  pick false x y z e = e

  by : domain_in (own_domains (map (close_type table) ds)) o n ≡ shape_in (closed table (domain_in (own_domains ds) o n)) → (b : Bool) → is_type_class d.1.class ≡ b →
      domain_in (own_domains (close_type table d ∷ map (close_type table) ds)) o n ≡ shape_in (closed table (domain_in (own_domains (d ∷ ds)) o n))
  by rest true e =
      ap (λ (x : List Domain). domain_in x o n) (own-closed-type table d (map (close_type table) ds) e) ∙
      pick (is_domain o n (domain_of_type d)) (shape_in d.1.type) (domain_in (own_domains ds) o n) (domain_in (own_domains (map (close_type table) ds)) o n) rest ∙
      ap (λ (x : List Domain). shape_in (closed table (domain_in x o n))) (sym (own-type d ds e))
  by rest false e =
      ap (λ (x : List Domain). domain_in x o n) (own-closed-other table d (map (close_type table) ds) e) ∙ rest ∙
      ap (λ (x : List Domain). shape_in (closed table (domain_in x o n))) (sym (own-other d ds e))

-- a whole shape, of which all that is reached is whole, is the shape of its closed type
closed-shape : (table : List Domain) (x : Option Shape) → is_whole x ≡ true → ((s : Shape) → x ≡ Some s → all_whole (reached table s) ≡ true) → shape_in (closed table x) ≡ x
closed-shape table None w h = absurd (true≢false (sym w))
closed-shape table (Some s) w h = let e = h s refl in rw e refl

-- so targets that fit the block say what its table does, once all that is reached is whole
block-same : (targets : Targets) (l : Local) (t : Shape) → FitsBlock targets l → all_whole (reached (own_domains l.known ++ carried l.known) t) ≡ true →
    Same (own_domains l.known ++ carried l.known) targets t
block-same targets l t f w o n s = by (stands_in (own_domains l.known) o n) refl where
  whole : is_whole (domain_in (own_domains l.known ++ carried l.known) o n) ≡ true
  whole = reached-whole (own_domains l.known ++ carried l.known) t o n w s

  below : (u : Shape) → domain_in (own_domains l.known ++ carried l.known) o n ≡ Some u → all_whole (reached (own_domains l.known ++ carried l.known) u) ≡ true
  below u e = whole-below (own_domains l.known ++ carried l.known) t o n u w s e

  by : (b : Bool) → stands_in (own_domains l.known) o n ≡ b → domain_in (own_domains l.known ++ carried l.known) o n ≡ targets o n
  by true e =
      let front = domain-front (own_domains l.known) (carried l.known) o n e in
      sym (closed-shape (own_domains l.known ++ carried l.known) (domain_in (own_domains l.known ++ carried l.known) o n) whole below) ∙
      ap (λ (x : Option Shape). shape_in (closed (own_domains l.known ++ carried l.known) x)) front ∙
      sym (own-shape (own_domains l.known ++ carried l.known) l.known o n) ∙
      sym (f.tells o n (own-stands (own_domains l.known ++ carried l.known) l.known o n ∙ e))
  by false e =
      let back = domain-back (own_domains l.known) (carried l.known) o n e in
      back ∙ apart-at targets (own_domains l.known) (carried l.known) o n f.others e (whole-stands (carried l.known) o n (ap is_whole (sym back) ∙ whole))

-- the hosts of two lists
pub hosts-both : (ds es : List Domain) → AllHostsLeadNowhere ds → AllHostsLeadNowhere es → AllHostsLeadNowhere (ds ++ es)
hosts-both [] es h k = k
hosts-both (d ∷ ds) es h k = (h.0, hosts-both ds es h.1 k)

-- types that are closed one by one
types-settled : (table : List Domain) (targets : Targets) (ds : List (List ℕ × Meaning)) → AllHostsLeadNowhere (own_domains ds) →
    ((s : Shape) (typed : Typed) → HostsLeadNowhere s → closed table (Some s) ≡ Some typed → IsSettled targets typed) → AllTypesSettled targets (map (close_type table) ds)
types-settled table targets [] h f = tt
types-settled table targets (d ∷ ds) h f = by (types-settled table targets ds) (is_type_class d.1.class) refl h where
  by : (AllHostsLeadNowhere (own_domains ds) → ((s : Shape) (typed : Typed) → HostsLeadNowhere s → closed table (Some s) ≡ Some typed → IsSettled targets typed) →
      AllTypesSettled targets (map (close_type table) ds)) → (b : Bool) → is_type_class d.1.class ≡ b →
      AllHostsLeadNowhere (if b then domain_of_type d ∷ own_domains ds else own_domains ds) →
      (is_type_class (if b then (d.0, record d.1 { type = closed table (shape_in d.1.type) }) else d).1.class ≡ true →
      IsSettledType targets (if b then (d.0, record d.1 { type = closed table (shape_in d.1.type) }) else d).1.type) × AllTypesSettled targets (map (close_type table) ds)
  by rest true e k = ((λ g. closed-settled-type table targets (shape_in d.1.type) k.0 f), rest k.1 f)
  by rest false e k = ((λ g. absurd (true≢false (sym g ∙ e))), rest k f)

pub block-settled : (targets : Targets) (l : Local) → FitsBlock targets l → AllTypesSettled targets (close_types l).known
block-settled targets l f =
    let table = own_domains l.known ++ carried l.known in
    types-settled table targets l.known f.own_hosts
    (λ s typed h e. closed-settled table targets s typed h (hosts-both (own_domains l.known) (carried l.known) f.own_hosts f.other_hosts) (block-same targets l s f) e)
