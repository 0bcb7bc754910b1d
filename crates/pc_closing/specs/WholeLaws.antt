-- Whole shapes lead to whole shapes, and what only leads to its like is whole.
use Rattle.std.proofs.Common.{◌≡◌, ℕ, zero, suc, ◌+◌, Bool, true, false, List, [], ◌∷◌, ◌++◌, Option, Some, None, refl, sym}
use Rattle.std.proofs.lemmas.Bool.{and_from, true≢false}
use Rattle.pc_types.specs.Shapes.{Owner, Shape, IntegerType, BooleanType, CharType, NilType, NoMembers, MembersType, TextType, EnumeratedType, SubrangeType, ArrayType, RecordType, SetType, PointerType, Fields, LastField, FieldOf, Domain}
use Rattle.pc_types.specs.Domains.{domain_in, stands_in, named_in, named_in_fields, named_in_option, walk, reached, is_whole, all_whole, length_of_domains, count_named}
use Rattle.pc_types.specs.TypeClasses.{fields_of}
use Rattle.pc_types.specs.Outlined.{element_of, domain_place}
use Rattle.pc_types.specs.Table.{Place}
use Rattle.pc_closed.specs.Reached.{Covers}
use Rattle.pc_closed.specs.PlaceLaws.{stands-front, stands-back, stands-first, named-at}
use Rattle.pc_closed.specs.WalkLaws.{reached-law}
use Rattle.pc_closed.specs.LeadLaws.{reached-whole}
use Rattle.pc_closing.specs.Whole.{is_whole_in, IfAny, IsKnown, EachField, IsFound, LeadsOn, WholeLaw}

-- ---- what leads only to its like is whole

-- each domain has a shape with the property
abbrev AllKnown : (Shape → Type 0) → List Domain → Type 0
AllKnown P [] = Unit {0}
AllKnown P (d ∷ ds) = IsKnown P d.shape × AllKnown P ds

known-both : (P : Shape → Type 0) (ds es : List Domain) → AllKnown P ds → AllKnown P es → AllKnown P (ds ++ es)
known-both P [] es h k = k
known-both P (d ∷ ds) es h k = (h.0, known-both P ds es h.1 k)

mutual
  named-known : (P : Shape → Type 0) (table : List Domain) → ((t : Shape) → P t → LeadsOn P table t) → (t : Shape) → P t → AllKnown P (named_in table t)
  named-known P table h (PointerType d o n) p = ((h (PointerType d o n) p).target, tt)
  named-known P table h (SubrangeType d t a b) p = tt
  named-known P table h (ArrayType d q i e) p = named-known P table h e (h (ArrayType d q i e) p).element
  named-known P table h (RecordType d q fs) p = fields-known P table h fs (h (RecordType d q fs) p).fields
  named-known P table h IntegerType p = tt
  named-known P table h BooleanType p = tt
  named-known P table h CharType p = tt
  named-known P table h NilType p = tt
  named-known P table h NoMembers p = tt
  named-known P table h (MembersType b) p = tt
  named-known P table h (TextType n) p = tt
  named-known P table h (EnumeratedType d ns) p = tt
  named-known P table h (SetType d q b) p = tt

  fields-known : (P : Shape → Type 0) (table : List Domain) → ((t : Shape) → P t → LeadsOn P table t) → (fs : Fields) → EachField P fs → AllKnown P (named_in_fields table fs)
  fields-known P table h LastField p = tt
  fields-known P table h (FieldOf n t fs) p = known-both P (named_in table t) (named_in_fields table fs) (named-known P table h t p.0) (fields-known P table h fs p.1)

option-known : (P : Shape → Type 0) (table : List Domain) → ((t : Shape) → P t → LeadsOn P table t) → (t : Option Shape) → IsKnown P t → AllKnown P (named_in_option table t)
option-known P table h None p = absurd p
option-known P table h (Some t) p = named-known P table h t p

walk-known : (visits : ℕ) (P : Shape → Type 0) (table met ahead : List Domain) → ((t : Shape) → P t → LeadsOn P table t) → AllKnown P met → AllKnown P ahead →
    AllKnown P (walk visits table met ahead)
walk-known zero P table met ahead h m a = m
walk-known (suc visits) P table met [] h m a = m
walk-known (suc visits) P table met (d ∷ ahead) h m a =
    by (walk-known visits P table met ahead h m a.1)
    (walk-known visits P table (met ++ d ∷ []) (named_in_option table d.shape ++ ahead) h (known-both P met (d ∷ []) m (a.0, tt))
    (known-both P (named_in_option table d.shape) ahead (option-known P table h d.shape a.0) a.1))
    (stands_in met d.owner d.name) where
      by : AllKnown P (walk visits table met ahead) → AllKnown P (walk visits table (met ++ d ∷ []) (named_in_option table d.shape ++ ahead)) → (b : Bool) →
          AllKnown P (elim b [ true ↦ walk visits table met ahead | false ↦ walk visits table (met ++ d ∷ []) (named_in_option table d.shape ++ ahead) ])
      by old new true = old
      by old new false = new

known-whole : (P : Shape → Type 0) (ds : List Domain) → AllKnown P ds → all_whole ds ≡ true
known-whole P [] h = refl
known-whole P (d ∷ ds) h = and_from (is_whole d.shape) (all_whole ds) (by d.shape h.0) (known-whole P ds h.1) where
  by : (x : Option Shape) → IsKnown P x → is_whole x ≡ true
  by None p = absurd p
  by (Some t) p = refl

pub whole-from : (P : Shape → Type 0) (ds : List Domain) → ((t : Shape) → P t → LeadsOn P ds t) → (t : Shape) → P t → is_whole_in ds t ≡ true
unfolding reached
whole-from P ds h t p =
    known-whole P (walk (length_of_domains (named_in ds t) + count_named ds ds) ds [] (named_in ds t))
    (walk-known (length_of_domains (named_in ds t) + count_named ds ds) P ds [] (named_in ds t) h tt (named-known P ds h t p))

-- ---- what is covered leads on

-- the places that a shape names are among some
abbrev pub IsCovered : List Domain → List Domain → Shape → Type 0
IsCovered table ds t = Covers ds (named_in table t)

covered-fields : (table ds : List Domain) (fs : Fields) → Covers ds (named_in_fields table fs) → EachField (IsCovered table ds) fs
covered-fields table ds LastField c = tt
covered-fields table ds (FieldOf n t fs) c = (
  (λ o m e. c o m (stands-front (named_in table t) (named_in_fields table fs) o m e)),
  covered-fields table ds fs (λ o m e. c o m (stands-back (named_in table t) (named_in_fields table fs) o m e)),
)

-- a covered shape leads to covered shapes, by any table that has such shapes at the places
pub covered-leads : (table other ds : List Domain) → ((o : Owner) (n : List ℕ) → stands_in ds o n ≡ true → IsKnown (IsCovered table ds) (domain_in other o n)) →
    (t : Shape) → IsCovered table ds t → LeadsOn (IsCovered table ds) other t
covered-leads table other ds h (PointerType d o n) c = record { element = tt; fields = tt; target = h o n (c o n (stands-first (record { owner = o; name = n; shape = domain_in table o n }) [])) }
covered-leads table other ds h (SubrangeType d t a b) c = record { element = tt; fields = tt; target = tt }
covered-leads table other ds h (ArrayType d q i e) c = record { element = c; fields = tt; target = tt }
covered-leads table other ds h (RecordType d q fs) c = record { element = tt; fields = covered-fields table ds fs c; target = tt }
covered-leads table other ds h IntegerType c = record { element = tt; fields = tt; target = tt }
covered-leads table other ds h BooleanType c = record { element = tt; fields = tt; target = tt }
covered-leads table other ds h CharType c = record { element = tt; fields = tt; target = tt }
covered-leads table other ds h NilType c = record { element = tt; fields = tt; target = tt }
covered-leads table other ds h NoMembers c = record { element = tt; fields = tt; target = tt }
covered-leads table other ds h (MembersType b) c = record { element = tt; fields = tt; target = tt }
covered-leads table other ds h (TextType n) c = record { element = tt; fields = tt; target = tt }
covered-leads table other ds h (EnumeratedType d ns) c = record { element = tt; fields = tt; target = tt }
covered-leads table other ds h (SetType d q b) c = record { element = tt; fields = tt; target = tt }

-- what has one property has another
field-more : (P Q : Shape → Type 0) → ((t : Shape) → P t → Q t) → (fs : Fields) → EachField P fs → EachField Q fs
field-more P Q f LastField p = tt
field-more P Q f (FieldOf n t fs) p = (f t p.0, field-more P Q f fs p.1)

any-more : (P Q : Shape → Type 0) → ((t : Shape) → P t → Q t) → (t : Option Shape) → IfAny P t → IfAny Q t
any-more P Q f None p = tt
any-more P Q f (Some t) p = f t p

known-more : (P Q : Shape → Type 0) → ((t : Shape) → P t → Q t) → (t : Option Shape) → IsKnown P t → IsKnown Q t
known-more P Q f None p = p
known-more P Q f (Some t) p = f t p

found-more : (P Q : Shape → Type 0) → ((t : Shape) → P t → Q t) → (ds : List Domain) (p : Option Place) → IsFound P ds p → IsFound Q ds p
found-more P Q f ds None p = tt
found-more P Q f ds (Some q) p = known-more P Q f (domain_in ds q.owner q.name) p

pub leads-more : (P Q : Shape → Type 0) → ((t : Shape) → P t → Q t) → (ds : List Domain) (t : Shape) → LeadsOn P ds t → LeadsOn Q ds t
leads-more P Q f ds t l = record {
  element = any-more P Q f (element_of t) l.element;
  fields = field-more P Q f (fields_of t) l.fields;
  target = found-more P Q f ds (domain_place t) l.target;
}

-- ---- what is reached from a whole shape is covered by it

pub reached-covered : (table : List Domain) (t : Shape) (o : Owner) (n : List ℕ) → stands_in (reached table t) o n ≡ true → is_whole (domain_in table o n) ≡ true →
    IsKnown (IsCovered table (reached table t)) (domain_in table o n)
reached-covered table t o n s w = by (domain_in table o n) w (named-at table (reached table t) (reached table t) o n (reached-law.all table t).from (reached-law.all table t).further s) where
  by : (x : Option Shape) → is_whole x ≡ true → Covers (reached table t) (named_in_option table x) → IsKnown (IsCovered table (reached table t)) x
  by None e c = absurd (true≢false (sym e))
  by (Some u) e c = c

covered-whole : (table : List Domain) (t : Shape) → is_whole_in table t ≡ true → (u : Shape) → IsCovered table (reached table t) u → is_whole_in table u ≡ true
covered-whole table t w =
    whole-from (IsCovered table (reached table t)) table
    (covered-leads table table (reached table t) (λ o n s. reached-covered table t o n s (reached-whole table t o n w s)))

pub whole-parts : (ds : List Domain) (t : Shape) → is_whole_in ds t ≡ true → LeadsOn (λ s. is_whole_in ds s ≡ true) ds t
whole-parts ds t w =
    leads-more (IsCovered ds (reached ds t)) (λ s. is_whole_in ds s ≡ true) (covered-whole ds t w) ds t
    (covered-leads ds ds (reached ds t) (λ o n s. reached-covered ds t o n s (reached-whole ds t o n w s)) t (reached-law.all ds t).first)

-- this holds
pub whole-law : WholeLaw
whole-law = record { parts = whole-parts; whole = λ p. whole-from (λ s. p s ≡ true) }
