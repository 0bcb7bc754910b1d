-- Which headings pair, and the forward headings behind one more routine: lemmas.
use Rattle.std.proofs.Common.{◌≡◌, ℕ, Bool, true, false, not, ◌&&◌, ◌==◌, nat_eq, List, [], ◌∷◌, ◌++◌, length, Option, Some, None, refl, ap, sym, ◌∙◌, arith, if◌then◌else◌, ◌||◌}
use Rattle.std.proofs.lemmas.Bool.{ne_eqb}
use Rattle.std.proofs.lemmas.Slice.Eq.{bytes_eq-Decides}
use Rattle.std.specs.Option.{option_or}
use Rattle.std.specs.Str.{bytes_eq}
use Rattle.pc_names.specs.Numbers.{number_of}
use Rattle.pc_names.specs.TableLaws.{nat_eq-number_of}
use Rattle.pc_scope.specs.Headings.{Heading, pairs, same_side, any_pairs, without_pairs}
use Rattle.pc_routines.specs.Heads.{side}
use Rattle.pc_rules.specs.RoutineList.{Forwarded, forwarded_for, without_forwarded}

-- ---- which headings pair

pub some-letter : (c : ℕ) (cs : List ℕ) → (length (c ∷ cs) == 0) ≡ false
some-letter c cs = ne_eqb (length (c ∷ cs)) 0 (λ e. omega (arith, e))

-- a heading without a name pairs with none
pub pairs-none : (h g : Heading) → g.name ≡ [] → pairs h g ≡ false
pairs-none h g e = ap (λ (n : List ℕ). not (length h.name == 0) && bytes_eq h.name n && same_side h.is_function g.is_function) e ∙ by h.name (same_side h.is_function g.is_function)
  where
    by : (n : List ℕ) (b : Bool) → (not (length n == 0) && bytes_eq n [] && b) ≡ false
    by [] b = refl
    by (c ∷ cs) b = ap (λ (z : Bool). not z && false && b) (some-letter c cs)

pub pairs-unnamed : (h g : Heading) → h.name ≡ [] → pairs h g ≡ false
pairs-unnamed h g e = ap (λ (n : List ℕ). not (length n == 0) && bytes_eq n g.name && same_side h.is_function g.is_function) e

sides : (a b : Bool) → nat_eq (side b) (side a) ≡ same_side a b
sides true true = refl
sides true false = refl
sides false true = refl
sides false false = refl

bytes_eq-swap : (n q : List ℕ) → bytes_eq n q ≡ bytes_eq q n
bytes_eq-swap n q = by (bytes_eq n q) (bytes_eq q n) refl refl
  where
    by : (b c : Bool) → bytes_eq n q ≡ b → bytes_eq q n ≡ c → bytes_eq n q ≡ bytes_eq q n
    by true true e f = e ∙ sym f
    by false false e f = e ∙ sym f
    by true false e f = sym ((bytes_eq-Decides q n).1 (sym ((bytes_eq-Decides n q).0 e)) ∙ sym e)
    by false true e f = (bytes_eq-Decides n q).1 (sym ((bytes_eq-Decides q n).0 f)) ∙ sym f

-- a named heading pairs with one whose name has a number where the numbers and the sides are the same
pub key-pairs : (names : List (List ℕ)) (h g : Heading) (c : ℕ) (cs : List ℕ) (i j : ℕ) → h.name ≡ c ∷ cs → number_of names h.name ≡ Some i → number_of names g.name ≡ Some j →
    (nat_eq j i && nat_eq (side g.is_function) (side h.is_function)) ≡ pairs h g
key-pairs names h g c cs i j named first second =
    (λ k. nat_eq-number_of names g.name h.name j i second first k && sides h.is_function g.is_function k)
    ∙ ap (λ (b : Bool). b && same_side h.is_function g.is_function) (bytes_eq-swap g.name h.name)
    ∙ sym
    (ap (λ (n : List ℕ). not (length n == 0) && bytes_eq h.name g.name && same_side h.is_function g.is_function) named
    ∙ ap (λ (z : Bool). not z && bytes_eq h.name g.name && same_side h.is_function g.is_function) (some-letter c cs))

-- a heading whose name has no number pairs with none that has one
pub unnumbered-pairs : (names : List (List ℕ)) (h g : Heading) (j : ℕ) → number_of names h.name ≡ None → number_of names g.name ≡ Some j → pairs h g ≡ false
unnumbered-pairs names h g j none some = by (bytes_eq h.name g.name) refl
  where
    by : (b : Bool) → bytes_eq h.name g.name ≡ b → pairs h g ≡ false
    by false e = ap (λ (b : Bool). not (length h.name == 0) && b && same_side h.is_function g.is_function) e ∙ no (length h.name == 0)
      where
        no : (z : Bool) → (not z && false && same_side h.is_function g.is_function) ≡ false
        no true = refl
        no false = refl
    by true e = let same : h.name ≡ g.name = (bytes_eq-Decides h.name g.name).0 e in let clash : None ≡ Some j = sym none ∙ ap (number_of names) same ∙ some in cc

-- the name and the side of a heading, by which alone it pairs
pub record Alike (g h : Heading) : Type 0 where
  pub name : g.name ≡ h.name
  pub side_is : g.is_function ≡ h.is_function

one-side : (a b : Bool) → same_side a b ≡ true → a ≡ b
one-side true true e = refl
one-side false false e = refl
one-side true false e = cc
one-side false true e = cc

pub alike : (g h : Heading) → pairs g h ≡ true → Alike g h
alike g h e = by (not (length g.name == 0)) (bytes_eq g.name h.name) refl e
  where
    by : (a b : Bool) → bytes_eq g.name h.name ≡ b → (a && b && same_side g.is_function h.is_function) ≡ true → Alike g h
    by true true f p = record { name = (bytes_eq-Decides g.name h.name).0 f; side_is = one-side g.is_function h.is_function p }
    by true false f p = cc
    by false b f p = cc

pub pairs-right : (h g x : Heading) → pairs g x ≡ true → pairs h g ≡ pairs h x
pairs-right h g x e =
    let a : Alike g x = alike g x e in
    λ i. not (length h.name == 0) && bytes_eq h.name (a.name i) && same_side h.is_function (a.side_is i)

pub pairs-left : (h g x : Heading) → pairs h g ≡ true → pairs h x ≡ pairs g x
pairs-left h g x e =
    let a : Alike h g = alike h g e in
    λ i. not (length (a.name i) == 0) && bytes_eq (a.name i) x.name && same_side (a.side_is i) x.is_function

-- ---- the list of forward headings, behind one more routine

pub for-more : (h : Heading) (fs : List Forwarded) (f : Forwarded) → forwarded_for h (fs ++ f ∷ []) ≡ option_or (forwarded_for h fs) (if pairs h f.heading then Some f else None)
for-more h [] f = refl
for-more h (x ∷ fs) f =
    elim (pairs h x.heading) as (λ (b : Bool). (if b then Some x else forwarded_for h (fs ++ f ∷ [])) ≡ option_or (if b then Some x else forwarded_for h fs) (if pairs h f.heading then Some f else None)) [
      | true ↦ refl
      | false ↦ for-more h fs f
    ]

by-pairs : {X : Type 0} (a b c : Bool) (x none rest old : X) → (a ≡ true → c ≡ b) → (c ≡ true → b ≡ a) → rest ≡ (if c then none else old) →
    (if a then rest else (if b then x else rest)) ≡ (if c then none else (if b then x else old))
by-pairs true b true x none rest old r l e = e
by-pairs true true false x none rest old r l e = cc (r refl)
by-pairs true false false x none rest old r l e = e
by-pairs false true true x none rest old r l e = cc (l refl)
by-pairs false true false x none rest old r l e = refl
by-pairs false false true x none rest old r l e = e
by-pairs false false false x none rest old r l e = e

pub for-without : (h g : Heading) (fs : List Forwarded) → forwarded_for h (without_forwarded g fs) ≡ (if pairs h g then None else forwarded_for h fs)
for-without h g [] = none (pairs h g)
  where
    none : (b : Bool) → forwarded_for h [] ≡ (if b then None else forwarded_for h [])
    none true = refl
    none false = refl
for-without h g (x ∷ fs) =
    split (pairs g x.heading)
    ∙ by-pairs {X = Option Forwarded} (pairs g x.heading) (pairs h x.heading) (pairs h g) (Some x) None (forwarded_for h (without_forwarded g fs)) (forwarded_for h fs) (pairs-right h g x.heading) (pairs-left h g x.heading)
    (for-without h g fs)
  where
    split : (a : Bool) → forwarded_for h (if a then without_forwarded g fs else x ∷ without_forwarded g fs)
        ≡ (if a then forwarded_for h (without_forwarded g fs) else (if pairs h x.heading then Some x else forwarded_for h (without_forwarded g fs)))
    split true = refl
    split false = refl

pub any-without : (h g : Heading) (ws : List Heading) → any_pairs h (without_pairs g ws) ≡ (if pairs h g then false else any_pairs h ws)
any-without h g [] = none (pairs h g)
  where
    none : (b : Bool) → false ≡ (if b then false else false)
    none true = refl
    none false = refl
any-without h g (x ∷ ws) =
    split (pairs g x)
    ∙ ap (λ (b : Bool). if pairs g x then any_pairs h (without_pairs g ws) else b) (or-if (pairs h x) (any_pairs h (without_pairs g ws)))
    ∙ by-pairs {X = Bool} (pairs g x) (pairs h x) (pairs h g) true false (any_pairs h (without_pairs g ws)) (any_pairs h ws) (pairs-right h g x) (pairs-left h g x) (any-without h g ws)
    ∙ ap (λ (b : Bool). if pairs h g then false else b) (sym (or-if (pairs h x) (any_pairs h ws)))
  where
    or-if : (a b : Bool) → (a || b) ≡ (if a then true else b)
    or-if true b = refl
    or-if false b = refl

    split : (a : Bool) → any_pairs h (if a then without_pairs g ws else x ∷ without_pairs g ws) ≡ (if a then any_pairs h (without_pairs g ws) else (pairs h x || any_pairs h (without_pairs g ws)))
    split true = refl
    split false = refl
