-- A type of a table is whole exactly where it is by other domains, if both lead to what one truth says.
use Rattle.std.proofs.Common.{◌≡◌, ℕ, zero, suc, ◌<◌, Bool, true, false, if◌then◌else◌, List, [], ◌∷◌, Option, Some, None, get_or, length, map, refl, sym, ◌∙◌, ap, subst, arith, inl, inr}
use Rattle.std.proofs.lemmas.List.{get_or_past, length-map}
use Rattle.std.proofs.lemmas.Option.{slice_get_cases}
use Rattle.pc_types.specs.Shapes.{Owner, Shape, IntegerType, BooleanType, CharType, NilType, NoMembers, MembersType, TextType, EnumeratedType, SubrangeType, ArrayType, RecordType, SetType, PointerType, Fields, LastField, FieldOf, Domain}
use Rattle.pc_types.specs.Domains.{is_domain, domain_in, stands_in, named_in, named_in_fields, named_in_option, reached}
use Rattle.pc_types.specs.Table.{Table, Place, place_of, nobody, nowhere, shape_at, place_at, domain_at, IsThere}
use Rattle.pc_types.specs.Rows.{Kept, seen, IsInOrder}
use Rattle.pc_types.specs.declared.operand.Operand.{Operand}
use Rattle.pc_pointers.specs.Good.{Targets, Leads, LeadFields, LeadsIfAny, LeadAll, IsGood}
use Rattle.pc_closed.specs.Reached.{Covers}
use Rattle.pc_closed.specs.Settled.{AllAgree}
use Rattle.pc_closed.specs.PlaceLaws.{stands-front, stands-back, stands-first, domain-none}
use Rattle.pc_closed.specs.ClosedLaws.{agree-at}
use Rattle.pc_closing.specs.Whole.{is_whole_in, AreFound, IfAny, AgreeAt, closed_shape}
use Rattle.pc_closing.specs.WholeLaws.{IsCovered}
use Rattle.pc_closing.specs.AgreeLaws.{agree-law, shape-of}
use Rattle.pc_closing.specs.PlacesLaws.{EachPlace, each-both, each-at, reached-each}
use Rattle.pc_closing.specs.RowedLaws.{row-stands, operand-rowed, target-rowed}
use Rattle.pc_closing.specs.Truth.{TellRows}

-- ---- what the rows say at a place

rows-agree : (truth : Targets) (ds : List Domain) →
    ((i : ℕ) → i < length ds →
    truth (get_or (map place_of ds) i nowhere).owner (get_or (map place_of ds) i nowhere).name ≡ (get_or ds i (record { owner = nobody; name = []; shape = None })).shape) → AllAgree truth ds
rows-agree truth [] h = tt
rows-agree truth (d ∷ ds) h = (sym (h zero (omega arith)), rows-agree truth ds (λ i l. h (suc i) (omega (arith, l))))

-- where a domain stands the table says what the truth does
pub told-at : (truth : Targets) (table : Table) → TellRows truth table (length table.domains) → (o : Owner) (n : List ℕ) → stands_in table.domains o n ≡ true →
    domain_in table.domains o n ≡ truth o n
told-at truth table h o n s = agree-at truth table.domains o n (rows-agree truth table.domains (λ i l. h (record { 0 = i }) l)) s

-- where none stands, and the truth says nothing, it does too
told-nowhere : (truth : Targets) (table : Table) → TellRows truth table (length table.domains) → (o : Owner) (n : List ℕ) → truth o n ≡ None → domain_in table.domains o n ≡ None
told-nowhere truth table h o n e = by (stands_in table.domains o n) refl where
  by : (b : Bool) → stands_in table.domains o n ≡ b → domain_in table.domains o n ≡ None
  by true s = told-at truth table h o n s ∙ e
  by false s = domain-none table.domains o n s

pub truth-found : (truth : Targets) (table : Table) → TellRows truth table (length table.domains) → truth nobody [] ≡ None → AreFound table
truth-found truth table h e x = elim (slice_get_cases table.domains x.0).1 [
  | inl w ↦ told-at truth table h (place_at table x).owner (place_at table x).name (row-stands table.domains x.0 w.1) ∙ h x w.1
  | inr w ↦
      let place : place_at table x ≡ nowhere = get_or_past (map place_of table.domains) x.0 nowhere (omega (arith, w.0, length-map table.domains place_of)) in
      let shape : (domain_at table x).shape ≡ None =
      ap (λ (d : Domain). d.shape) (get_or_past table.domains x.0 (record { owner = nobody; name = []; shape = None }) w.0) in
      ap (λ (p : Place). domain_in table.domains p.owner p.name) place ∙ told-nowhere truth table h nobody [] e ∙ sym shape
]

-- ---- two tables that agree at what is reached

-- both have the same at a place
abbrev pub IsSameAt : List Domain → List Domain → Owner → List ℕ → Type 0
IsSameAt a b o n = domain_in a o n ≡ domain_in b o n

-- where a domain of the first table stands, it says what the truth does
abbrev pub IsTold : Targets → List Domain → Type 0
IsTold truth a = (o : Owner) (n : List ℕ) → stands_in a o n ≡ true → domain_in a o n ≡ truth o n

mutual
  named-same : (truth : Targets) (a b : List Domain) → IsTold truth a → (t : Shape) → IsCovered a a t → Leads b truth t → EachPlace (IsSameAt a b) (named_in a t)
  named-same truth a b h (PointerType d o n) c l = (h o n (c o n (stands-first (record { owner = o; name = n; shape = domain_in a o n }) [])) ∙ sym l, tt)
  named-same truth a b h (SubrangeType d t x y) c l = tt
  named-same truth a b h (ArrayType d p i e) c l = named-same truth a b h e c l
  named-same truth a b h (RecordType d p fs) c l = fields-same truth a b h fs c l
  named-same truth a b h IntegerType c l = tt
  named-same truth a b h BooleanType c l = tt
  named-same truth a b h CharType c l = tt
  named-same truth a b h NilType c l = tt
  named-same truth a b h NoMembers c l = tt
  named-same truth a b h (MembersType t) c l = tt
  named-same truth a b h (TextType n) c l = tt
  named-same truth a b h (EnumeratedType d ns) c l = tt
  named-same truth a b h (SetType d p t) c l = tt

  fields-same : (truth : Targets) (a b : List Domain) → IsTold truth a → (fs : Fields) → Covers a (named_in_fields a fs) → LeadFields b truth fs → EachPlace (IsSameAt a b) (named_in_fields a fs)
  fields-same truth a b h LastField c l = tt
  fields-same truth a b h (FieldOf n t fs) c l =
      each-both (IsSameAt a b) (named_in a t) (named_in_fields a fs)
      (named-same truth a b h t (λ o m e. c o m (stands-front (named_in a t) (named_in_fields a fs) o m e)) l.0)
      (fields-same truth a b h fs (λ o m e. c o m (stands-back (named_in a t) (named_in_fields a fs) o m e)) l.1)

-- what the second table has at a place leads to what the truth says
found-leads : (ds : List Domain) (truth : Targets) (es : List Domain) (o : Owner) (n : List ℕ) → LeadAll ds truth es → LeadsIfAny ds truth (domain_in es o n)
found-leads ds truth [] o n h = tt
found-leads ds truth (e ∷ es) o n h = by (found-leads ds truth es o n h.1) (is_domain o n e) where
  by : LeadsIfAny ds truth (domain_in es o n) → (b : Bool) → LeadsIfAny ds truth (if b then e.shape else domain_in es o n)
  by rest true = h.0
  by rest false = rest

-- from a place at which both are the same they are at those that its shape names
goes-same : (truth : Targets) (a b : List Domain) → IsTold truth a → ((o : Owner) (n : List ℕ) → IfAny (IsCovered a a) (domain_in a o n)) → LeadAll b truth b → (o : Owner) (n : List ℕ) → IsSameAt a b o n →
    EachPlace (IsSameAt a b) (named_in_option a (domain_in a o n))
goes-same truth a b h c r o n e = by (domain_in a o n) (c o n) (subst (LeadsIfAny b truth) (sym e) (found-leads b truth b o n r)) where
  by : (x : Option Shape) → IfAny (IsCovered a a) x → LeadsIfAny b truth x → EachPlace (IsSameAt a b) (named_in_option a x)
  by None q l = tt
  by (Some t) q l = named-same truth a b h t q l

-- ---- types of a table

-- a type of the table reaches only places at which the table and the domains that go with the type are the same
pub told-agree : (truth : Targets) (k : Kept) (ds : List Domain) (x : Operand) → IsInOrder k → TellRows truth (seen k) (length (seen k).domains) → IsThere (seen k) x →
    IsGood truth (record { shape = shape_at (seen k) x; domains = ds }) → AgreeAt (seen k).domains ds (shape_at (seen k) x)
told-agree truth k ds x h tells there good o n =
    let table = (seen k).domains in
    let told : IsTold truth table = told-at truth (seen k) tells in
    each-at (IsSameAt table ds) (reached table (shape_at (seen k) x)) o n
    (reached-each (IsSameAt table ds) table (shape_at (seen k) x) (goes-same truth table ds told (target-rowed k table h) good.reached)
    (named-same truth table ds told (shape_at (seen k) x) (operand-rowed k table x h there) good.leads))

-- so both find the same types whole
pub told-whole : (truth : Targets) (k : Kept) (ds : List Domain) (x : Operand) → IsInOrder k → TellRows truth (seen k) (length (seen k).domains) → IsThere (seen k) x →
    IsGood truth (record { shape = shape_at (seen k) x; domains = ds }) → is_whole_in ds (shape_at (seen k) x) ≡ is_whole_in (seen k).domains (shape_at (seen k) x)
told-whole truth k ds x h tells there good = sym (agree-law.whole (seen k).domains ds (shape_at (seen k) x) (told-agree truth k ds x h tells there good))

pub told-closed : (truth : Targets) (k : Kept) (ds : List Domain) (x : Operand) → IsInOrder k → TellRows truth (seen k) (length (seen k).domains) → IsThere (seen k) x →
    IsGood truth (record { shape = shape_at (seen k) x; domains = ds }) →
    closed_shape ds (Some (shape_at (seen k) x)) ≡ (if is_whole_in (seen k).domains (shape_at (seen k) x) then Some (shape_at (seen k) x) else None)
told-closed truth k ds x h tells there good =
    shape-of ds (shape_at (seen k) x) ∙ ap (λ (w : Bool). if w then Some (shape_at (seen k) x) else None) (told-whole truth k ds x h tells there good)
