-- The places of domains: which stand in a list, and what stands there.
use Rattle.std.proofs.Common.{◌≡◌, ◌⊎◌, ℕ, Bool, true, false, ◌||◌, if◌then◌else◌, List, [], ◌∷◌, ◌++◌, None, refl, sym, ◌∙◌, ap, inl, inr, true≢false}
use Rattle.std.proofs.lemmas.Bool.{and_parts, and_from, or_cases, or_left, or_right, or_from, or_parts, false_from_ne_true}
use Rattle.std.proofs.lemmas.Slice.Eq.{bytes_eq-Decides}
use Rattle.std.specs.Str.{bytes_eq}
use Rattle.pc_types.specs.Shapes.{Owner, Keyed, Placed, Domain}
use Rattle.pc_types.specs.Sameness.{same_words, same_owner}
use Rattle.pc_types.specs.Domains.{is_domain, domain_in, stands_in, named_in_option, is_whole}
use Rattle.pc_closed.specs.Reached.{Covers, EachOnce, AllFrom, AllNamed}

-- lists of words that compare as the same are equal
same_words-equal : (v w : List (List ℕ)) → same_words v w ≡ true → v ≡ w
same_words-equal [] [] e = refl
same_words-equal [] (w ∷ ws) e = absurd (true≢false (sym e))
same_words-equal (v ∷ vs) [] e = absurd (true≢false (sym e))
same_words-equal (v ∷ vs) (w ∷ ws) e =
    let both = and_parts (bytes_eq v w) (same_words vs ws) e in
    let first : v ≡ w = (bytes_eq-Decides v w).0 both.0 in
    let rest : vs ≡ ws = same_words-equal vs ws both.1 in
    λ i. first i ∷ rest i

-- so are owners
same_owner-equal : (a b : Owner) → same_owner a b ≡ true → a ≡ b
same_owner-equal (Keyed k) (Keyed l) e = ap Keyed (same_words-equal k l e)
same_owner-equal (Keyed k) (Placed q) e = absurd (true≢false (sym e))
same_owner-equal (Placed p) (Keyed l) e = absurd (true≢false (sym e))
same_owner-equal (Placed p) (Placed q) e = ap Placed ((bytes_eq-Decides p q).0 e)

same_words-self : (v : List (List ℕ)) → same_words v v ≡ true
same_words-self [] = refl
same_words-self (w ∷ ws) = and_from (bytes_eq w w) (same_words ws ws) ((bytes_eq-Decides w w).1 refl) (same_words-self ws)

-- an owner is the same as itself
pub same_owner-self : (o : Owner) → same_owner o o ≡ true
same_owner-self (Keyed k) = same_words-self k
same_owner-self (Placed p) = (bytes_eq-Decides p p).1 refl

-- a domain stands at its own place
pub is_domain-self : (d : Domain) → is_domain d.owner d.name d ≡ true
is_domain-self d = and_from (same_owner d.owner d.owner) (bytes_eq d.name d.name) (same_owner-self d.owner) ((bytes_eq-Decides d.name d.name).1 refl)

-- the domain at a place has that block and that name
pub is_domain-tells : (o : Owner) (n : List ℕ) (d : Domain) → is_domain o n d ≡ true → (o ≡ d.owner) × (n ≡ d.name)
is_domain-tells o n d e =
    let both = and_parts (same_owner o d.owner) (bytes_eq n d.name) e in
    (same_owner-equal o d.owner both.0, (bytes_eq-Decides n d.name).0 both.1)

-- of two domains each stands at the other's place, or neither does
pub is_domain-both : (d e : Domain) → is_domain d.owner d.name e ≡ false → is_domain e.owner e.name d ≡ false
is_domain-both d e h = false_from_ne_true (is_domain e.owner e.name d) (λ t.
    let p = is_domain-tells e.owner e.name d t in
    let u : is_domain d.owner d.name e ≡ true = rw (sym p.0, sym p.1) (is_domain-self e) in
    true≢false (sym u ∙ h))

-- the same stands at equal places
pub stands-moved : (ds : List Domain) (o : Owner) (n : List ℕ) (d : Domain) → is_domain o n d ≡ true → stands_in ds o n ≡ stands_in ds d.owner d.name
stands-moved ds o n d e = let p = is_domain-tells o n d e in rw (p.0, p.1) refl

pub domain-moved : (ds : List Domain) (o : Owner) (n : List ℕ) (d : Domain) → is_domain o n d ≡ true → domain_in ds o n ≡ domain_in ds d.owner d.name
domain-moved ds o n d e = let p = is_domain-tells o n d e in rw (p.0, p.1) refl

-- what stands in two lists, one behind the other, stands in one of them
pub stands-parts : (ds es : List Domain) (o : Owner) (n : List ℕ) → stands_in (ds ++ es) o n ≡ true → (stands_in ds o n ≡ true) ⊎ (stands_in es o n ≡ true)
stands-parts [] es o n h = inr h
stands-parts (d ∷ ds) es o n h = elim (or_cases (is_domain o n d) (stands_in (ds ++ es) o n) h) [
  | inl e ↦ inl (or_left (is_domain o n d) (stands_in ds o n) e)
  | inr e ↦ elim (stands-parts ds es o n e) [
    | inl f ↦ inl (or_right (is_domain o n d) (stands_in ds o n) f)
    | inr f ↦ inr f
  ]
]

pub stands-front : (ds es : List Domain) → Covers (ds ++ es) ds
stands-front [] es o n h = absurd (true≢false (sym h))
stands-front (d ∷ ds) es o n h = elim (or_cases (is_domain o n d) (stands_in ds o n) h) [
  | inl e ↦ or_left (is_domain o n d) (stands_in (ds ++ es) o n) e
  | inr e ↦ or_right (is_domain o n d) (stands_in (ds ++ es) o n) (stands-front ds es o n e)
]

pub stands-back : (ds es : List Domain) → Covers (ds ++ es) es
stands-back [] es o n h = h
stands-back (d ∷ ds) es o n h = or_right (is_domain o n d) (stands_in (ds ++ es) o n) (stands-back ds es o n h)

-- a domain stands in a list that begins with it, and what stands behind it does
pub stands-first : (d : Domain) (ds : List Domain) → stands_in (d ∷ ds) d.owner d.name ≡ true
stands-first d ds = or_left (is_domain d.owner d.name d) (stands_in ds d.owner d.name) (is_domain-self d)

pub stands-next : (d : Domain) (ds : List Domain) → Covers (d ∷ ds) ds
stands-next d ds o n h = or_right (is_domain o n d) (stands_in ds o n) h

-- what doesn't stand in either list doesn't stand in both
pub stands-neither : (ds es : List Domain) (o : Owner) (n : List ℕ) → stands_in ds o n ≡ false → stands_in es o n ≡ false → stands_in (ds ++ es) o n ≡ false
stands-neither ds es o n h k = false_from_ne_true (stands_in (ds ++ es) o n) (λ t. elim (stands-parts ds es o n t) [
  | inl e ↦ true≢false (sym e ∙ h)
  | inr e ↦ true≢false (sym e ∙ k)
])

-- ---- coverings

pub covers-through : (ds es fs : List Domain) → Covers ds es → Covers es fs → Covers ds fs
covers-through ds es fs h k o n e = h o n (k o n e)

pub covers-both : (ds es fs : List Domain) → Covers ds es → Covers ds fs → Covers ds (es ++ fs)
covers-both ds es fs h k o n e = elim (stands-parts es fs o n e) [
  | inl f ↦ h o n f
  | inr f ↦ k o n f
]

-- a place that stands in the list and more covered places
pub covers-more : (ds : List Domain) (e : Domain) (es : List Domain) → stands_in ds e.owner e.name ≡ true → Covers ds es → Covers ds (e ∷ es)
covers-more ds e es s h o n t = elim (or_cases (is_domain o n e) (stands_in es o n) t) [
  | inl f ↦ stands-moved ds o n e f ∙ s
  | inr f ↦ h o n f
]

-- ---- what stands at a place

-- where no domain stands there is no shape
pub domain-none : (ds : List Domain) (o : Owner) (n : List ℕ) → stands_in ds o n ≡ false → domain_in ds o n ≡ None
domain-none [] o n h = refl
domain-none (d ∷ ds) o n h = let p = or_parts (is_domain o n d) (stands_in ds o n) h in rw p.0 (domain-none ds o n p.1)

-- where there is a shape a domain stands
pub whole-stands : (ds : List Domain) (o : Owner) (n : List ℕ) → is_whole (domain_in ds o n) ≡ true → stands_in ds o n ≡ true
whole-stands ds o n h = by (stands_in ds o n) refl where
  by : (b : Bool) → stands_in ds o n ≡ b → b ≡ true
  by true e = refl
  by false e = absurd (true≢false (sym h ∙ ap is_whole (domain-none ds o n e)))

-- the first list decides, where the place stands in it; else the second does
pub domain-front : (ds es : List Domain) (o : Owner) (n : List ℕ) → stands_in ds o n ≡ true → domain_in (ds ++ es) o n ≡ domain_in ds o n
domain-front [] es o n h = absurd (true≢false (sym h))
domain-front (d ∷ ds) es o n h = by (domain-front ds es o n) (is_domain o n d) h where
  by : (stands_in ds o n ≡ true → domain_in (ds ++ es) o n ≡ domain_in ds o n) → (b : Bool) → (b || stands_in ds o n) ≡ true →
      (if b then d.shape else domain_in (ds ++ es) o n) ≡ (if b then d.shape else domain_in ds o n)
  by rest true e = refl
  by rest false e = rest e

pub domain-back : (ds es : List Domain) (o : Owner) (n : List ℕ) → stands_in ds o n ≡ false → domain_in (ds ++ es) o n ≡ domain_in es o n
domain-back [] es o n h = refl
domain-back (d ∷ ds) es o n h = let p = or_parts (is_domain o n d) (stands_in ds o n) h in rw p.0 (domain-back ds es o n p.1)

-- ---- what holds of each domain of a list

pub from-both : (table ds es : List Domain) → AllFrom table ds → AllFrom table es → AllFrom table (ds ++ es)
from-both table [] es h k = k
from-both table (d ∷ ds) es h k = (h.0, from-both table ds es h.1 k)

-- so what stands at a place is what the table says
pub from-at : (table ds : List Domain) (o : Owner) (n : List ℕ) → AllFrom table ds → stands_in ds o n ≡ true → domain_in ds o n ≡ domain_in table o n
from-at table [] o n h s = absurd (true≢false (sym s))
from-at table (d ∷ ds) o n h s = by (from-at table ds o n h.1) (is_domain o n d) refl s where
  by : (stands_in ds o n ≡ true → domain_in ds o n ≡ domain_in table o n) → (b : Bool) → is_domain o n d ≡ b → (b || stands_in ds o n) ≡ true →
      (if b then d.shape else domain_in ds o n) ≡ domain_in table o n
  by rest true e f = h.0 ∙ sym (domain-moved table o n d e)
  by rest false e f = rest f

-- one more domain at a new place
pub once-more : (ds : List Domain) (d : Domain) → EachOnce ds → stands_in ds d.owner d.name ≡ false → EachOnce (ds ++ d ∷ [])
once-more [] d h s = (refl, tt)
once-more (e ∷ ds) d h s =
    let p = or_parts (is_domain d.owner d.name e) (stands_in ds d.owner d.name) s in
    (stands-neither ds (d ∷ []) e.owner e.name h.0 (or_from (is_domain e.owner e.name d) false (is_domain-both d e p.0) refl), once-more ds d h.1 p.1)

-- what is named stands among more
pub named-among : (table all more ds : List Domain) → Covers more all → AllNamed table all ds → AllNamed table more ds
named-among table all more [] c h = tt
named-among table all more (d ∷ ds) c h = (covers-through more all (named_in_option table d.shape) c h.0, named-among table all more ds c h.1)

pub named-both : (table all ds es : List Domain) → AllNamed table all ds → AllNamed table all es → AllNamed table all (ds ++ es)
named-both table all [] es h k = k
named-both table all (d ∷ ds) es h k = (h.0, named-both table all ds es h.1 k)

-- what the shape at a place names
pub named-at : (table all ds : List Domain) (o : Owner) (n : List ℕ) → AllFrom table ds → AllNamed table all ds → stands_in ds o n ≡ true → Covers all (named_in_option table (domain_in table o n))
named-at table all [] o n f h s = absurd (true≢false (sym s))
named-at table all (d ∷ ds) o n f h s = elim (or_cases (is_domain o n d) (stands_in ds o n) s) [
  | inl e ↦ let g : d.shape ≡ domain_in table o n = f.0 ∙ sym (domain-moved table o n d e) in rw (sym g) h.0
  | inr e ↦ named-at table all ds o n f.1 h.1 e
]
