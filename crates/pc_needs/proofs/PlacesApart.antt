-- No two routines of a program stand at one place.
use Rattle.std.specs.Prelude.{ℕ, suc, ◌≡◌, ◌≤◌, true, ◌==◌, List, [], ◌∷◌, Option, ◌++◌}
use Rattle.std.proofs.Common.{refl, ap, sym, subst, ◌∙◌, true≢false, inl, inr, arith, append_assoc}
use Rattle.std.proofs.lemmas.Bool.{and_parts, eqb-true}
use Rattle.pc_syntax.specs.declared.kind.Kind.TheVariants as kind
use Rattle.pc_syntax.specs.Plain.{Forest, Nil, Cons, Plain}
use Rattle.pc_rules.specs.Attributes.{Attributes, first}
use Rattle.pc_rules.specs.Decorated.{decorate}
use Rattle.pc_rules.specs.Meanings.{Found, Local, find}
use Rattle.pc_rules.specs.OwnBlock.{own}
use Rattle.pc_rules.specs.Places.{inner, beside}
use Rattle.pc_rules.specs.RoutineList.{Forwarded, routine_of, key_of, forwarded_by, part_of, routines_in, routines_below, program_routine, routines_of}
use Rattle.pc_rules.specs.Routines.{Routine, bare, start_of}
use Rattle.pc_needs.specs.Bodies.{PlacesLaw}
use Rattle.pc_needs.specs.Inside.{is_below}
use Rattle.pc_needs.specs.Unaffected.{IsOneOf}
use Rattle.pc_needs.proofs.Lists.{Each, each-append, each-map, each-one}
use Rattle.pc_needs.proofs.PlaceLemmas.{of-part, StandsBelow, places-in, places-below}

-- ---- places

-- no place is below itself
pub not-below : (p : List ℕ) → is_below p p ≡ true → ⊥
not-below [] e = true≢false (sym e)
not-below (i ∷ p) e = not-below p (and_parts (i == i) (is_below p p) e).1

-- what is below a place goes on from it
below-more : (p q : List ℕ) → is_below p q ≡ true → (j : ℕ) × (js : List ℕ) × (q ≡ p ++ j ∷ js)
below-more [] [] e = absurd (true≢false (sym e))
below-more [] (j ∷ js) e = (j, js, refl)
below-more (i ∷ p) [] e = absurd (true≢false (sym e))
below-more (i ∷ p) (j ∷ q) e =
    let both = and_parts (i == j) (is_below p q) e in
    let more = below-more p q both.1 in
    let same : j ≡ i = sym (eqb-true i j both.0) in
    (more.0, more.1, λ z. same z ∷ more.2 z)

head-or : List ℕ → ℕ
head-or [] = 0
head-or (i ∷ is) = i

tail-or : List ℕ → List ℕ
tail-or [] = []
tail-or (i ∷ is) = is

-- two places that go on from one go on by the same kid
same-kid : (p : List ℕ) (i j : ℕ) (is js : List ℕ) → p ++ i ∷ is ≡ p ++ j ∷ js → i ≡ j
unfolding head-or tail-or
same-kid [] i j is js e = ap head-or e
same-kid (a ∷ p) i j is js e = same-kid p i j is js (ap tail-or e)

-- a routine at or below a kid, and one at or below that kid or one behind it
IsAtKid : List ℕ → ℕ → Routine → Type 0
IsAtKid p i r = (is : List ℕ) × (r.place ≡ p ++ i ∷ is)

IsFromKid : List ℕ → ℕ → Routine → Type 0
IsFromKid p i r = (j : ℕ) × (is : List ℕ) × (i ≤ j) × (r.place ≡ p ++ j ∷ is)

at-kid : (p : List ℕ) (i : ℕ) (r : Routine) → StandsBelow (p ++ i ∷ []) r → IsAtKid p i r
unfolding IsAtKid
at-kid p i r h = let m = below-more (p ++ i ∷ []) r.place h in (m.0 ∷ m.1, m.2 ∙ append_assoc p (i ∷ []) (m.0 ∷ m.1))

from-at : (p : List ℕ) (i : ℕ) (r : Routine) → IsAtKid p i r → IsFromKid p i r
unfolding IsAtKid IsFromKid
from-at p i r h = (i, h.0, omega arith, h.1)

from-next : (p : List ℕ) (i : ℕ) (r : Routine) → IsFromKid p (suc i) r → IsFromKid p i r
unfolding IsFromKid
from-next p i r h = (h.0, h.1, omega (arith, h.2), h.3)

-- two routines stand apart
abbrev pub Apart : Routine → Routine → Type 0
Apart x y = x.place ≡ y.place → ⊥

kids-apart : (p : List ℕ) (i : ℕ) (x y : Routine) → IsAtKid p i x → IsFromKid p (suc i) y → Apart x y
unfolding IsAtKid IsFromKid
kids-apart p i x y h g e = let s = same-kid p i g.0 h.0 g.1 (sym h.1 ∙ e ∙ g.3) in absurd (omega (arith, g.2, s))

below-apart : (x y : Routine) → StandsBelow x.place y → Apart x y
below-apart x y h e = not-below y.place (subst (λ (p : List ℕ). is_below p y.place ≡ true) e h)

-- all routines of a list do
abbrev pub AllApart : List Routine → Type 0
AllApart [] = Unit {0}
AllApart (x ∷ xs) = Each (Apart x) xs × AllApart xs

apart-append : (xs ys : List Routine) → AllApart xs → AllApart ys → Each (λ x. Each (Apart x) ys) xs → AllApart (xs ++ ys)
apart-append [] ys h g a = g
apart-append (x ∷ xs) ys h g a = (each-append (Apart x) xs ys h.0 a.0, apart-append xs ys h.1 g a.1)

-- ---- the routines of some trees

here : (p : List ℕ) (i : ℕ) (r : Routine) → r.place ≡ p ++ i ∷ [] → IsAtKid p i r
unfolding IsAtKid
here p i r e = ([], e)

from-kids : (m : List ℕ → Found) (l : Local) (fs : List Forwarded) (p : List ℕ) (key : Option (List (List ℕ))) (f : Forest) → Each (IsFromKid p l.kid) (routines_in m l fs p key f)
unfolding routines_in
from-kids m l fs p key Nil = tt
from-kids m l fs p key (Cons k w ns ks ts) =
    let a : Attributes = first (decorate (bare m) l (own (Cons k w ns ks Nil))) in
    let after : Local = beside l k a in
    let r : Routine = routine_of (find (bare m) after) l fs (p ++ l.kid ∷ []) key k ks in
    let inside = λ (rs : List Routine) (h : Each (StandsBelow (p ++ l.kid ∷ [])) rs). each-map (StandsBelow (p ++ l.kid ∷ [])) (IsFromKid p l.kid) rs (λ x b. from-at p l.kid x (at-kid p l.kid x b)) h in
    let behind = λ (rs : List Routine) (h : Each (IsFromKid p (suc l.kid)) rs). each-map (IsFromKid p (suc l.kid)) (IsFromKid p l.kid) rs (λ x b. from-next p l.kid x b) h in
    of-part (Each (IsFromKid p l.kid)) (part_of k) _ _ _
    (λ e. each-append (IsFromKid p l.kid) (r ∷ routines_below r 1 ks) _ (from-at p l.kid r (here p l.kid r refl), inside (routines_below r 1 ks) (places-below r 1 ks))
    (behind _ (from-kids m after (forwarded_by l r fs) p key ts)))
    (λ e. inside _ (places-in m (inner l k ks) [] (p ++ l.kid ∷ []) key ks))
    (λ e. behind _ (from-kids m after fs p key ts))

mutual
  unfolding routines_in

  pub apart-in : (m : List ℕ → Found) (l : Local) (fs : List Forwarded) (p : List ℕ) (key : Option (List (List ℕ))) (f : Forest) → AllApart (routines_in m l fs p key f)
  apart-in m l fs p key Nil = tt
  apart-in m l fs p key (Cons k w ns ks ts) =
      let a : Attributes = first (decorate (bare m) l (own (Cons k w ns ks Nil))) in
      let after : Local = beside l k a in
      let r : Routine = routine_of (find (bare m) after) l fs (p ++ l.kid ∷ []) key k ks in
      let behind = from-kids m after (forwarded_by l r fs) p key ts in
      let apart = λ (x : Routine) (h : IsAtKid p l.kid x). each-map (IsFromKid p (suc l.kid)) (Apart x) (routines_in m after (forwarded_by l r fs) p key ts) (λ y g. kids-apart p l.kid x y h g) behind in
      of-part AllApart (part_of k) _ _ _
      (λ e. apart-append (r ∷ routines_below r 1 ks) (routines_in m after (forwarded_by l r fs) p key ts)
      (each-map (StandsBelow r.place) (Apart r) (routines_below r 1 ks) (λ y b. below-apart r y b) (places-below r 1 ks), apart-below r 1 ks)
      (apart-in m after (forwarded_by l r fs) p key ts) (
        apart r (here p l.kid r refl),
        each-map (StandsBelow (p ++ l.kid ∷ [])) (λ x. Each (Apart x) (routines_in m after (forwarded_by l r fs) p key ts)) (routines_below r 1 ks) (λ x b. apart x (at-kid p l.kid x b)) (places-below r 1 ks),
      ))
      (λ e. apart-in m (inner l k ks) [] (p ++ l.kid ∷ []) key ks)
      (λ e. apart-in m after fs p key ts)

  pub apart-below : (r : Routine) (i : ℕ) (f : Forest) → AllApart (routines_below r i f)
  apart-below r i Nil = tt
  apart-below r i (Cons kind.Block w ns ks ts) = apart-in r.means (start_of r) [] (r.place ++ i ∷ []) (key_of r.owner) ks
  apart-below r i (Cons k w ns ks ts) = apart-below r (suc i) ts

-- ---- a program

pub routines-apart : (t : Plain) → AllApart (routines_of t)
unfolding routines_of
routines-apart t = (
  each-map (StandsBelow []) (Apart (program_routine t)) (routines_below (program_routine t) 1 t.kids) (λ y b. below-apart (program_routine t) y b) (places-below (program_routine t) 1 t.kids),
  apart-below (program_routine t) 1 t.kids,
)

one-at : (rs : List Routine) (a b : Routine) → AllApart rs → IsOneOf rs a → IsOneOf rs b → a.place ≡ b.place → a ≡ b
one-at [] a b h i j e = absurd i
one-at (x ∷ xs) a b h (inl i) (inl j) e = sym i ∙ j
one-at (x ∷ xs) a b h (inl i) (inr j) e = absurd (each-one (Apart x) xs b j h.0 (ap (λ (r : Routine). r.place) i ∙ e))
one-at (x ∷ xs) a b h (inr i) (inl j) e = absurd (each-one (Apart x) xs a i h.0 (ap (λ (r : Routine). r.place) j ∙ sym e))
one-at (x ∷ xs) a b h (inr i) (inr j) e = one-at xs a b h.1 i j e

pub places-law : PlacesLaw
places-law t a b i j e = one-at (routines_of t) a b (routines-apart t) i j e
