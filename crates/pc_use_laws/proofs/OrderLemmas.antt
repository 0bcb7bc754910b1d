-- Of the routines of a program none stands before one that it is inside of.
use Rattle.std.specs.Prelude.{ℕ, suc, ◌≡◌, ◌≤◌, Bool, true, false, ◌==◌, if◌then◌else◌, List, [], ◌∷◌, Option, None, ◌++◌, map}
use Rattle.std.proofs.Common.{refl, ap, sym, ◌∙◌, true≢false, arith, append_assoc}
use Rattle.std.proofs.lemmas.Bool.{and_parts, eqb-true}
use Rattle.pc_syntax.specs.declared.kind.Kind.TheVariants as kind
use Rattle.pc_syntax.specs.Plain.{Forest, Nil, Cons, Plain}
use Rattle.pc_rules.specs.Attributes.{Attributes, first}
use Rattle.pc_rules.specs.Decorated.{decorate}
use Rattle.pc_rules.specs.Errors.{is_program}
use Rattle.pc_rules.specs.Meanings.{Found, Local, find}
use Rattle.pc_rules.specs.OwnBlock.{own}
use Rattle.pc_rules.specs.Places.{inner, beside}
use Rattle.pc_rules.specs.RoutineList.{Forwarded, routine_of, key_of, forwarded_by, part_of, routines_in, routines_below, program_routine, routines_of}
use Rattle.pc_rules.specs.Routines.{Routine, bare, start_of}
use Rattle.pc_decl.specs.Annotated.{Annotation, annotated, annotation_of}
use Rattle.pc_decl.specs.Nodes.{way_from}
use Rattle.pc_needs.specs.Inside.{is_below}
use Rattle.pc_needs.proofs.Lists.{Each, each-append, each-map}
use Rattle.pc_needs.proofs.PlaceLemmas.{of-part, StandsBelow, places-in, places-below, number-same}

-- ---- ways

-- no way leads from a place to one above it
none-above : (p q : List ℕ) → is_below p q ≡ true → way_from q p ≡ None
none-above [] [] e = absurd (true≢false (sym e))
none-above [] (j ∷ q) e = refl
none-above (i ∷ p) [] e = absurd (true≢false (sym e))
none-above (i ∷ p) (j ∷ q) e = by (none-above p q (and_parts (i == j) (is_below p q) e).1) (j == i) where
  by : way_from q p ≡ None → (z : Bool) → (if z then way_from q p else None) ≡ None
  by rest true = rest
  by rest false = refl

-- nor to one below another kid
none-beside : (p : List ℕ) (i j : ℕ) (is js : List ℕ) → suc i ≤ j → way_from (p ++ j ∷ js) (p ++ i ∷ is) ≡ None
none-beside [] i j is js less = by (j == i) refl where
  by : (z : Bool) → (j == i) ≡ z → (if z then way_from js is else None) ≡ None
  by true e = let same : j ≡ i = eqb-true j i e in absurd (omega (arith, less, same))
  by false e = refl
none-beside (a ∷ p) i j is js less = ap (λ (z : Bool). if z then way_from (p ++ j ∷ js) (p ++ i ∷ is) else None) (number-same a) ∙ none-beside p i j is js less

-- ---- the order of routines

-- the second isn't at the first, nor around it
abbrev pub IsBehind : Routine → Routine → Type 0
IsBehind x y = way_from y.place x.place ≡ None

-- all routines of a list are in order
abbrev pub InOrder : List Routine → Type 0
InOrder [] = Unit {0}
InOrder (x ∷ xs) = Each (IsBehind x) xs × InOrder xs

order-append : (xs ys : List Routine) → InOrder xs → InOrder ys → Each (λ x. Each (IsBehind x) ys) xs → InOrder (xs ++ ys)
order-append [] ys h g a = g
order-append (x ∷ xs) ys h g a = (each-append (IsBehind x) xs ys h.0 a.0, order-append xs ys h.1 g a.1)

-- a routine at or below a kid, and one at or below that kid or one behind it
abbrev IsAtKid : List ℕ → ℕ → Routine → Type 0
IsAtKid p i r = (is : List ℕ) × (r.place ≡ p ++ i ∷ is)

abbrev IsFromKid : List ℕ → ℕ → Routine → Type 0
IsFromKid p i r = (j : ℕ) × (is : List ℕ) × (i ≤ j) × (r.place ≡ p ++ j ∷ is)

below-more : (p q : List ℕ) → is_below p q ≡ true → (j : ℕ) × (js : List ℕ) × (q ≡ p ++ j ∷ js)
below-more [] [] e = absurd (true≢false (sym e))
below-more [] (j ∷ js) e = (j, js, refl)
below-more (i ∷ p) [] e = absurd (true≢false (sym e))
below-more (i ∷ p) (j ∷ q) e =
    let both = and_parts (i == j) (is_below p q) e in
    let more = below-more p q both.1 in
    let same : j ≡ i = sym (eqb-true i j both.0) in
    (more.0, more.1, λ z. same z ∷ more.2 z)

at-kid : (p : List ℕ) (i : ℕ) (r : Routine) → StandsBelow (p ++ i ∷ []) r → IsAtKid p i r
at-kid p i r h = let m = below-more (p ++ i ∷ []) r.place h in (m.0 ∷ m.1, m.2 ∙ append_assoc p (i ∷ []) (m.0 ∷ m.1))

from-at : (p : List ℕ) (i : ℕ) (r : Routine) → IsAtKid p i r → IsFromKid p i r
from-at p i r h = (i, h.0, omega arith, h.1)

from-next : (p : List ℕ) (i : ℕ) (r : Routine) → IsFromKid p (suc i) r → IsFromKid p i r
from-next p i r h = let less : suc i ≤ h.0 = h.2 in (h.0, h.1, omega (arith, less), h.3)

kids-behind : (p : List ℕ) (i : ℕ) (x y : Routine) → IsAtKid p i x → IsFromKid p (suc i) y → IsBehind x y
kids-behind p i x y h g = (λ z. way_from (g.3 z) (h.1 z)) ∙ none-beside p i g.0 h.0 g.1 g.2

below-behind : (x y : Routine) → StandsBelow x.place y → IsBehind x y
below-behind x y h = none-above x.place y.place h

from-kids : (m : List ℕ → Found) (l : Local) (fs : List Forwarded) (p : List ℕ) (key : Option (List (List ℕ))) (f : Forest) → Each (IsFromKid p l.kid) (routines_in m l fs p key f)
unfolding routines_in
from-kids m l fs p key Nil = tt
from-kids m l fs p key (Cons k w ns ks ts) =
    let a : Attributes = first (decorate (bare m) l (own (Cons k w ns ks Nil))) in
    let after : Local = beside l k a in
    let r : Routine = routine_of (find (bare m) after) l fs (p ++ l.kid ∷ []) key k ks in
    let inside = λ (rs : List Routine) (h : Each (StandsBelow (p ++ l.kid ∷ [])) rs). each-map (StandsBelow (p ++ l.kid ∷ [])) (IsFromKid p l.kid) rs (λ x b. from-at p l.kid x (at-kid p l.kid x b)) h in
    let behind = λ (rs : List Routine) (h : Each (IsFromKid p (suc l.kid)) rs). each-map (IsFromKid p (suc l.kid)) (IsFromKid p l.kid) rs (λ x b. from-next p l.kid x b) h in
    of-part (Each (IsFromKid p l.kid)) (part_of k) _ _ _
    (λ e. each-append (IsFromKid p l.kid) (r ∷ routines_below r 1 ks) _ (from-at p l.kid r ([], refl), inside (routines_below r 1 ks) (places-below r 1 ks))
    (behind _ (from-kids m after (forwarded_by l r fs) p key ts)))
    (λ e. inside _ (places-in m (inner l k ks) [] (p ++ l.kid ∷ []) key ks))
    (λ e. behind _ (from-kids m after fs p key ts))

mutual
  unfolding routines_in

  order-in : (m : List ℕ → Found) (l : Local) (fs : List Forwarded) (p : List ℕ) (key : Option (List (List ℕ))) (f : Forest) → InOrder (routines_in m l fs p key f)
  order-in m l fs p key Nil = tt
  order-in m l fs p key (Cons k w ns ks ts) =
      let a : Attributes = first (decorate (bare m) l (own (Cons k w ns ks Nil))) in
      let after : Local = beside l k a in
      let r : Routine = routine_of (find (bare m) after) l fs (p ++ l.kid ∷ []) key k ks in
      let behind = from-kids m after (forwarded_by l r fs) p key ts in
      let apart = λ (x : Routine) (h : IsAtKid p l.kid x). each-map (IsFromKid p (suc l.kid)) (IsBehind x) (routines_in m after (forwarded_by l r fs) p key ts) (λ y g. kids-behind p l.kid x y h g) behind in
      of-part InOrder (part_of k) _ _ _
      (λ e. order-append (r ∷ routines_below r 1 ks) (routines_in m after (forwarded_by l r fs) p key ts)
      (each-map (StandsBelow r.place) (IsBehind r) (routines_below r 1 ks) (λ y b. below-behind r y b) (places-below r 1 ks), order-below r 1 ks)
      (order-in m after (forwarded_by l r fs) p key ts) (
        apart r ([], refl),
        each-map (StandsBelow (p ++ l.kid ∷ [])) (λ x. Each (IsBehind x) (routines_in m after (forwarded_by l r fs) p key ts)) (routines_below r 1 ks) (λ x b. apart x (at-kid p l.kid x b)) (places-below r 1 ks),
      ))
      (λ e. order-in m (inner l k ks) [] (p ++ l.kid ∷ []) key ks)
      (λ e. order-in m after fs p key ts)

  order-below : (r : Routine) (i : ℕ) (f : Forest) → InOrder (routines_below r i f)
  order-below r i Nil = tt
  order-below r i (Cons kind.Block w ns ks ts) = order-in r.means (start_of r) [] (r.place ++ i ∷ []) (key_of r.owner) ks
  order-below r i (Cons k w ns ks ts) = order-below r (suc i) ts

routines-order : (t : Plain) → InOrder (routines_of t)
unfolding routines_of
routines-order t = (
  each-map (StandsBelow []) (IsBehind (program_routine t)) (routines_below (program_routine t) 1 t.kids) (λ y b. below-behind (program_routine t) y b) (places-below (program_routine t) 1 t.kids),
  order-below (program_routine t) 1 t.kids,
)

-- ---- those with what is found in them

-- all of a list are in order
abbrev pub AllInOrder : List Annotation → Type 0
AllInOrder [] = Unit {0}
AllInOrder (x ∷ xs) = Each (λ (y : Annotation). IsBehind x.routine y.routine) xs × AllInOrder xs

behind-of : (all : List Routine) (x : Routine) (rs : List Routine) → Each (IsBehind x) rs → Each (λ (y : Annotation). IsBehind x y.routine) (map (annotation_of all) rs)
behind-of all x [] h = tt
behind-of all x (r ∷ rs) h = (h.0, behind-of all x rs h.1)

order-of : (all rs : List Routine) → InOrder rs → AllInOrder (map (annotation_of all) rs)
order-of all [] h = tt
order-of all (r ∷ rs) h = (behind-of all r rs h.0, order-of all rs h.1)

pub annotations-order : (t : Plain) → AllInOrder (annotated t).routines
unfolding annotated
annotations-order t = which (is_program t.kind) where
  which : (z : Bool) → AllInOrder (map (annotation_of (if z then routines_of t else [])) (if z then routines_of t else []))
  which true = order-of (routines_of t) (routines_of t) (routines-order t)
  which false = tt
