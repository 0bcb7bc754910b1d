-- What is reached from a shape leads to what the targets say, where these say what the table does.
use Rattle.std.proofs.Common.{◌≡◌, ℕ, Bool, true, false, ◌||◌, if◌then◌else◌, List, [], ◌∷◌, Option, Some, None, refl, sym, ◌∙◌, ap, subst}
use Rattle.std.proofs.lemmas.Bool.{and_parts, true≢false}
use Rattle.pc_types.specs.Shapes.{Owner, Shape, IntegerType, BooleanType, CharType, NilType, NoMembers, MembersType, TextType, EnumeratedType, SubrangeType, ArrayType, RecordType, SetType, PointerType, Fields, LastField, FieldOf, Domain, Typed}
use Rattle.pc_types.specs.Domains.{is_domain, domain_in, stands_in, named_in, named_in_fields, named_in_option, reached, is_whole, all_whole, closed}
use Rattle.pc_pointers.specs.Good.{Targets, Leads, LeadFields, LeadsIfAny, LeadAll}
use Rattle.pc_closed.specs.Reached.{Covers, AllFrom, AllNamed}
use Rattle.pc_closed.specs.PlaceLaws.{stands-front, stands-back, stands-first, stands-next, named-at}
use Rattle.pc_closed.specs.WalkLaws.{reached-law}
use Rattle.pc_closed.specs.Settled.{leads_nowhere, lead_nowhere, HostsLeadNowhere, FieldHostsLeadNowhere, HostsLeadNowhereIfAny, AllHostsLeadNowhere, AllAgree, IsSettled}

-- ---- what leads nowhere leads to what any targets say

mutual
  pub nowhere-leads : (ds : List Domain) (targets : Targets) (t : Shape) → leads_nowhere t ≡ true → Leads ds targets t
  nowhere-leads ds targets (PointerType d o n) e = absurd (true≢false (sym e))
  nowhere-leads ds targets (SubrangeType d h a b) e = nowhere-leads [] targets h e
  nowhere-leads ds targets (ArrayType d p i t) e = nowhere-leads ds targets t e
  nowhere-leads ds targets (RecordType d p fs) e = nowhere-lead ds targets fs e
  nowhere-leads ds targets IntegerType e = tt
  nowhere-leads ds targets BooleanType e = tt
  nowhere-leads ds targets CharType e = tt
  nowhere-leads ds targets NilType e = tt
  nowhere-leads ds targets NoMembers e = tt
  nowhere-leads ds targets (MembersType b) e = tt
  nowhere-leads ds targets (TextType n) e = tt
  nowhere-leads ds targets (EnumeratedType d ns) e = tt
  nowhere-leads ds targets (SetType d p b) e = tt

  nowhere-lead : (ds : List Domain) (targets : Targets) (fs : Fields) → lead_nowhere fs ≡ true → LeadFields ds targets fs
  nowhere-lead ds targets LastField e = tt
  nowhere-lead ds targets (FieldOf n t fs) e =
      let p = and_parts (leads_nowhere t) (lead_nowhere fs) e in
      (nowhere-leads ds targets t p.0, nowhere-lead ds targets fs p.1)

-- ---- what names only domains that the targets tell leads to what the targets say

-- the targets say of each place of some domains what these do
abbrev pub Follows : Targets → List Domain → Type 0
Follows targets ds = (o : Owner) (n : List ℕ) → stands_in ds o n ≡ true → domain_in ds o n ≡ targets o n

mutual
  shape-leads : (table ds : List Domain) (targets : Targets) (t : Shape) → HostsLeadNowhere t → Covers ds (named_in table t) → Follows targets ds → Leads ds targets t
  shape-leads table ds targets (PointerType d o n) h c f = f o n (c o n (stands-first (record { owner = o; name = n; shape = domain_in table o n }) []))
  shape-leads table ds targets (SubrangeType d t a b) h c f = nowhere-leads [] targets t h
  shape-leads table ds targets (ArrayType d p i t) h c f = shape-leads table ds targets t h c f
  shape-leads table ds targets (RecordType d p fs) h c f = fields-lead table ds targets fs h c f
  shape-leads table ds targets IntegerType h c f = tt
  shape-leads table ds targets BooleanType h c f = tt
  shape-leads table ds targets CharType h c f = tt
  shape-leads table ds targets NilType h c f = tt
  shape-leads table ds targets NoMembers h c f = tt
  shape-leads table ds targets (MembersType b) h c f = tt
  shape-leads table ds targets (TextType n) h c f = tt
  shape-leads table ds targets (EnumeratedType d ns) h c f = tt
  shape-leads table ds targets (SetType d p b) h c f = tt

  fields-lead : (table ds : List Domain) (targets : Targets) (fs : Fields) → FieldHostsLeadNowhere fs → Covers ds (named_in_fields table fs) → Follows targets ds → LeadFields ds targets fs
  fields-lead table ds targets LastField h c f = tt
  fields-lead table ds targets (FieldOf n t fs) h c f = (
    shape-leads table ds targets t h.0 (λ o m e. c o m (stands-front (named_in table t) (named_in_fields table fs) o m e)) f,
    fields-lead table ds targets fs h.1 (λ o m e. c o m (stands-back (named_in table t) (named_in_fields table fs) o m e)) f,
  )

option-leads : (table ds : List Domain) (targets : Targets) (t : Option Shape) → HostsLeadNowhereIfAny t → Covers ds (named_in_option table t) → Follows targets ds → LeadsIfAny ds targets t
option-leads table ds targets None h c f = tt
option-leads table ds targets (Some t) h c f = shape-leads table ds targets t h c f

all-lead : (table ds es : List Domain) (targets : Targets) → AllHostsLeadNowhere es → AllNamed table ds es → Follows targets ds → LeadAll ds targets es
all-lead table ds [] targets h c f = tt
all-lead table ds (e ∷ es) targets h c f = (option-leads table ds targets e.shape h.0 c.0 f, all-lead table ds es targets h.1 c.1 f)

-- ---- hosts of what is reached

pub hosts-at : (table : List Domain) (o : Owner) (n : List ℕ) → AllHostsLeadNowhere table → HostsLeadNowhereIfAny (domain_in table o n)
hosts-at [] o n h = tt
hosts-at (d ∷ ds) o n h = by (hosts-at ds o n h.1) (is_domain o n d) where
  by : HostsLeadNowhereIfAny (domain_in ds o n) → (b : Bool) → HostsLeadNowhereIfAny (if b then d.shape else domain_in ds o n)
  by rest true = h.0
  by rest false = rest

-- each domain that is what the table says is of such hosts
pub hosts-from : (table ds : List Domain) → AllHostsLeadNowhere table → AllFrom table ds → AllHostsLeadNowhere ds
hosts-from table [] h f = tt
hosts-from table (d ∷ ds) h f = let e : d.shape ≡ domain_in table d.owner d.name = f.0 in (rw e (hosts-at table d.owner d.name h), hosts-from table ds h f.1)

-- ---- a shape with what is reached from it

-- each domain that is reached is what the targets say, where these say what the table does
agree-from : (table ds : List Domain) (targets : Targets) → AllFrom table ds → ((o : Owner) (n : List ℕ) → stands_in ds o n ≡ true → domain_in table o n ≡ targets o n) → AllAgree targets ds
agree-from table [] targets f h = tt
agree-from table (d ∷ ds) targets f h =
    (f.0 ∙ h d.owner d.name (stands-first d ds), agree-from table ds targets f.1 (λ o n s. h o n (stands-next d ds o n s)))

pub settled : (table : List Domain) (targets : Targets) (t : Shape) → HostsLeadNowhere t → AllHostsLeadNowhere table →
    ((o : Owner) (n : List ℕ) → stands_in (reached table t) o n ≡ true → domain_in table o n ≡ targets o n) → IsSettled targets (record { shape = t; domains = reached table t })
settled table targets t h k same =
    let r = reached-law.all table t in
    let follows : Follows targets (reached table t) = λ o n s. reached-law.same table t o n s ∙ same o n s in
    record {
      good = record {
        leads = shape-leads table (reached table t) targets t h r.first follows;
        reached = all-lead table (reached table t) (reached table t) targets (hosts-from table (reached table t) k r.from) r.further follows;
      };
      agree = agree-from table (reached table t) targets r.from same;
    }

-- ---- what is whole

whole-at : (ds : List Domain) (o : Owner) (n : List ℕ) → all_whole ds ≡ true → stands_in ds o n ≡ true → is_whole (domain_in ds o n) ≡ true
whole-at [] o n w s = absurd (true≢false (sym s))
whole-at (d ∷ ds) o n w s = let p = and_parts (is_whole d.shape) (all_whole ds) w in by p.0 (whole-at ds o n p.1) (is_domain o n d) s where
  by : is_whole d.shape ≡ true → (stands_in ds o n ≡ true → is_whole (domain_in ds o n) ≡ true) → (b : Bool) → (b || stands_in ds o n) ≡ true → is_whole (if b then d.shape else domain_in ds o n) ≡ true
  by here rest true e = here
  by here rest false e = rest e

-- each domain that is reached has a shape in the table
pub reached-whole : (table : List Domain) (t : Shape) (o : Owner) (n : List ℕ) → all_whole (reached table t) ≡ true → stands_in (reached table t) o n ≡ true → is_whole (domain_in table o n) ≡ true
reached-whole table t o n w s = ap is_whole (sym (reached-law.same table t o n s)) ∙ whole-at (reached table t) o n w s

all-whole-from : (table ds : List Domain) → AllFrom table ds → ((o : Owner) (n : List ℕ) → stands_in ds o n ≡ true → is_whole (domain_in table o n) ≡ true) → all_whole ds ≡ true
all-whole-from table [] f h = refl
all-whole-from table (d ∷ ds) f h =
    let here : is_whole d.shape ≡ true = ap is_whole f.0 ∙ h d.owner d.name (stands-first d ds) in
    rw here (all-whole-from table ds f.1 (λ o n s. h o n (stands-next d ds o n s)))

-- so all is whole that is reached from what is reached
pub whole-below : (table : List Domain) (t : Shape) (o : Owner) (n : List ℕ) (s : Shape) → all_whole (reached table t) ≡ true → stands_in (reached table t) o n ≡ true →
    domain_in table o n ≡ Some s → all_whole (reached table s) ≡ true
whole-below table t o n s w here e =
    let r = reached-law.all table t in
    let named = λ (p : Owner) (m : List ℕ) (k : stands_in (reached table t) p m ≡ true). named-at table (reached table t) (reached table t) p m r.from r.further k in
    let first : Covers (reached table t) (named_in table s) =
    subst (λ (x : Option Shape). Covers (reached table t) (named_in_option table x)) e (named o n here) in
    let within = reached-law.least table s (reached table t) first named in
    all-whole-from table (reached table s) (reached-law.all table s).from (λ p m k. reached-whole table t p m w (within p m k))

-- what a closed type is
pub closed-tells : (table : List Domain) (t : Shape) (typed : Typed) → closed table (Some t) ≡ Some typed →
    (all_whole (reached table t) ≡ true) × (record { shape = t; domains = reached table t } ≡ typed)
closed-tells table t typed e = by (all_whole (reached table t)) e where
  by : (b : Bool) → (if b then Some (record { shape = t; domains = reached table t }) else None) ≡ Some typed → (b ≡ true) × (record { shape = t; domains = reached table t } ≡ typed)
  by true q = (refl, cc q)
  by false q = cc q
