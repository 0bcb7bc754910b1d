-- Flags stay right when the table changes elsewhere than at the places that are reached from the types with flags.
use Rattle.std.proofs.Common.{◌≡◌, ℕ, zero, suc, ◌+◌, ◌<◌, ◌≤◌, Bool, true, false, if◌then◌else◌, List, [], ◌∷◌, ◌++◌, Option, Some, None, get_or, length, refl, sym, ◌∙◌, ap, subst, arith, inl, inr}
use Rattle.std.proofs.lemmas.Bool.{true≢false, or_cases}
use Rattle.std.proofs.lemmas.List.{get_or_append_left}
use Rattle.pc_types.specs.Shapes.{Owner, Shape, NoMembers, Domain}
use Rattle.pc_types.specs.Domains.{is_domain, domain_in, stands_in, named_in, named_in_option, walk, reached, length_of_domains, count_named}
use Rattle.pc_types.specs.Growth.{GrowsBy, AddsDomain}
use Rattle.pc_types.specs.Table.{Table}
use Rattle.pc_closed.specs.Reached.{AllFrom}
use Rattle.pc_closed.specs.PlaceLaws.{is_domain-tells, from-both}
use Rattle.pc_closed.specs.WalkLaws.{named-from}
use Rattle.pc_closing.specs.Whole.{is_whole_in, AreWhole, AreFound, AgreeAt}
use Rattle.pc_closing.specs.AgreeLaws.{agree-law}
use Rattle.pc_closing.specs.Kept.{AllAt, LeadTogether, FirstLeadTo, SameFor, KeptLaw}

-- ---- what is reached stays among places that lead only to each other

at-both : (p : Owner → List ℕ → Bool) (ds es : List Domain) → AllAt p ds → AllAt p es → AllAt p (ds ++ es)
at-both p [] es h k = k
at-both p (d ∷ ds) es h k = (h.0, at-both p ds es h.1 k)

pub option-from : (table : List Domain) (t : Option Shape) → AllFrom table (named_in_option table t)
option-from table None = tt
option-from table (Some t) = named-from table t

walk-at : (visits : ℕ) (p : Owner → List ℕ → Bool) (table met ahead : List Domain) → LeadTogether p table → AllFrom table ahead → AllAt p met → AllAt p ahead → AllAt p (walk visits table met ahead)
walk-at zero p table met ahead h f m a = m
walk-at (suc visits) p table met [] h f m a = m
walk-at (suc visits) p table met (d ∷ ahead) h f m a =
    by (walk-at visits p table met ahead h f.1 m a.1)
    (walk-at visits p table (met ++ d ∷ []) (named_in_option table d.shape ++ ahead) h (from-both table (named_in_option table d.shape) ahead (option-from table d.shape) f.1)
    (at-both p met (d ∷ []) m (a.0, tt)) (at-both p (named_in_option table d.shape) ahead named a.1))
    (stands_in met d.owner d.name) where
      named : AllAt p (named_in_option table d.shape)
      named = subst (λ (x : Option Shape). AllAt p (named_in_option table x)) (sym f.0) (h d.owner d.name a.0)

      by : AllAt p (walk visits table met ahead) → AllAt p (walk visits table (met ++ d ∷ []) (named_in_option table d.shape ++ ahead)) → (b : Bool) →
          AllAt p (elim b [ true ↦ walk visits table met ahead | false ↦ walk visits table (met ++ d ∷ []) (named_in_option table d.shape ++ ahead) ])
      by old new true = old
      by old new false = new

reached-at : (p : Owner → List ℕ → Bool) (table : List Domain) (t : Shape) → LeadTogether p table → AllAt p (named_in table t) → AllAt p (reached table t)
unfolding reached
reached-at p table t h a = walk-at (length_of_domains (named_in table t) + count_named table table) p table [] (named_in table t) h (named-from table t) tt a

stands-at : (p : Owner → List ℕ → Bool) (ds : List Domain) (o : Owner) (n : List ℕ) → AllAt p ds → stands_in ds o n ≡ true → p o n ≡ true
stands-at p [] o n h s = absurd (true≢false (sym s))
stands-at p (d ∷ ds) o n h s = elim (or_cases (is_domain o n d) (stands_in ds o n) s) [
  | inl e ↦ let q = is_domain-tells o n d e in (λ i. p (q.0 i) (q.1 i)) ∙ h.0
  | inr e ↦ stands-at p ds o n h.1 e
]

-- ---- flags

-- flags stay right where nothing changes at what is reached
agree-kept : (a b : Table) (flags : List Bool) → ((i : ℕ) → i < length flags → get_or b.shapes i NoMembers ≡ get_or a.shapes i NoMembers) →
    ((i : ℕ) → i < length flags → AgreeAt a.domains b.domains (get_or a.shapes i NoMembers)) → AreWhole a flags → AreWhole b flags
agree-kept a b flags s d h i l = h i l ∙ agree-law.whole a.domains b.domains (get_or a.shapes i NoMembers) (d i l) ∙ ap (is_whole_in b.domains) (sym (s i l))

changed : (p : Owner → List ℕ → Bool) (a b : Table) (flags : List Bool) → LeadTogether p a.domains → FirstLeadTo p a (length flags) → SameFor p a b (length flags) → AreWhole a flags → AreWhole b flags
changed p a b flags t f s =
    agree-kept a b flags s.shapes
    (λ i l o n r. s.domains o n (stands-at p (reached a.domains (get_or a.shapes i NoMembers)) o n (reached-at p a.domains (get_or a.shapes i NoMembers) t (f i l)) r))

grown : (a b : Table) (t : Shape) (flags : List Bool) → GrowsBy a b t → length flags ≤ length a.shapes → AreWhole a flags → AreWhole b flags
grown a b t flags g few =
    agree-kept a b flags
    (λ i l. ap (λ (v : List Shape). get_or v i NoMembers) g.shapes ∙ get_or_append_left a.shapes (t ∷ []) NoMembers i (omega (arith, l, few)))
    (λ i l o n r. ap (λ (ds : List Domain). domain_in ds o n) (sym g.domains))

-- a domain without a type changes nothing
one-more : (ds : List Domain) (d : Domain) (o : Owner) (n : List ℕ) → d.shape ≡ None → domain_in ds o n ≡ domain_in (ds ++ d ∷ []) o n
one-more [] d o n e = by (is_domain o n d) where
  by : (b : Bool) → None ≡ (if b then d.shape else None)
  by true = sym e
  by false = refl
one-more (f ∷ ds) d o n e = by (one-more ds d o n e) (is_domain o n f) where
  by : domain_in ds o n ≡ domain_in (ds ++ d ∷ []) o n → (b : Bool) → (if b then f.shape else domain_in ds o n) ≡ (if b then f.shape else domain_in (ds ++ d ∷ []) o n)
  by rest true = refl
  by rest false = rest

added : (a b : Table) (d : Domain) (flags : List Bool) → AddsDomain a b d → d.shape ≡ None → AreWhole a flags → AreWhole b flags
added a b d flags g e =
    agree-kept a b flags (λ i l. ap (λ (v : List Shape). get_or v i NoMembers) g.shapes)
    (λ i l o n r. one-more a.domains d o n e ∙ ap (λ (ds : List Domain). domain_in ds o n) (sym g.domains))

-- what the table has at the place of each domain depends on its domains alone
found : (a b : Table) (t : Shape) → GrowsBy a b t → AreFound a → AreFound b
found a b t g h x = subst (λ (ds : List Domain). AreFound (record { shapes = b.shapes; owners = b.owners; domains = ds })) (sym g.domains) h x

-- this holds
pub kept-law : KeptLaw
kept-law = record { changed = changed; grown = grown; added = added; found = found }
