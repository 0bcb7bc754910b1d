-- The forward headings that wait for their later declaration, by environment and by places: the same, in the same order.
use Rattle.std.proofs.Common.{Bool, List, None, Option, Some, [], ap, append-nil, arith, bytes_eq, false, if◌then◌else◌, is_some, length, not, refl, subst, suc, sym, true, ℕ, ◌&&◌, ◌+◌, ◌++◌, ◌==◌, ◌||◌, ◌∙◌, ◌∷◌, ◌≡◌}
use Rattle.std.specs.Option.{option_or}
use Rattle.pc_rule_laws.specs.Standing.{equal}
use Rattle.pc_rules.specs.Meanings.{Meaning}
use Rattle.pc_rules.specs.RoutineList.{Forwarded, forwarded_for, without_forwarded}
use Rattle.pc_scope.specs.Headings.{Heading, any_pairs, pairs, same_side, without_pairs}
use Rattle.pc_scope.specs.Waiting.{waiting_for, waits}

-- ---- which headings pair

-- the name and the side of a heading, by which alone it pairs
record Alike (g h : Heading) : Type 0 where
  name : g.name ≡ h.name
  side : g.is_function ≡ h.is_function

one-side : (a b : Bool) → same_side a b ≡ true → a ≡ b
one-side true true e = refl
one-side true false e = cc e
one-side false true e = cc e
one-side false false e = refl

alike : (g h : Heading) → pairs g h ≡ true → Alike g h
alike g h e = by (not (length g.name == 0)) (bytes_eq g.name h.name) refl e where
  by : (a b : Bool) → bytes_eq g.name h.name ≡ b → ((a && b) && same_side g.is_function h.is_function) ≡ true → Alike g h
  by true true f e = record { name = equal g.name h.name f; side = one-side g.is_function h.is_function e }
  by true false f e = cc e
  by false b f e = cc e

pairs-right : (h g x : Heading) → pairs g x ≡ true → pairs h g ≡ pairs h x
pairs-right h g x e =
    let a : Alike g x = alike g x e in
    λ i. not (length h.name == 0) && bytes_eq h.name (a.name i) && same_side h.is_function (a.side i)

pairs-left : (h g x : Heading) → pairs h g ≡ true → pairs h x ≡ pairs g x
pairs-left h g x e =
    let a : Alike h g = alike h g e in
    λ i. not (length (a.name i) == 0) && bytes_eq (a.name i) x.name && same_side (a.side i) x.is_function

-- ---- the forward heading that waits for one

-- by environment it is known with its parameters, by places with its number; R relates these two
abbrev pub GivenBy : (List (List ℕ × Meaning) → ℕ → Type 0) → Option Forwarded → Option ℕ → Type 0
GivenBy R None None = Unit {0}
GivenBy R (Some f) (Some c) = R f.parameters c
GivenBy R _ _ = ⊥

-- both know the same of each heading
abbrev pub Waiting : (List (List ℕ × Meaning) → ℕ → Type 0) → List Forwarded → (Heading → Option ℕ) → Type 0
Waiting R fs o = (h : Heading) → GivenBy R (forwarded_for h fs) (o h)

for-more : (h : Heading) (fs : List Forwarded) (f : Forwarded) → forwarded_for h (fs ++ f ∷ []) ≡ option_or (forwarded_for h fs) (if pairs h f.heading then Some f else None)
for-more h [] f = refl
for-more h (x ∷ fs) f =
    elim (pairs h x.heading) as (λ (b : Bool). (if b then Some x else forwarded_for h (fs ++ f ∷ [])) ≡ option_or (if b then Some x else forwarded_for h fs) (if pairs h f.heading then Some f else None)) [
      | true ↦ refl
      | false ↦ for-more h fs f
    ]

for-without : (h g : Heading) (fs : List Forwarded) → forwarded_for h (without_forwarded g fs) ≡ (if pairs h g then None else forwarded_for h fs)
for-without h g [] = none (pairs h g) where
  none : (b : Bool) → forwarded_for h [] ≡ (if b then None else forwarded_for h [])
  none true = refl
  none false = refl
for-without h g (x ∷ fs) =
    split (pairs g x.heading)
    ∙ by (pairs g x.heading) (pairs h x.heading) (pairs h g) (pairs-right h g x.heading) (pairs-left h g x.heading) (forwarded_for h (without_forwarded g fs)) (for-without h g fs) where
      split : (a : Bool) → forwarded_for h (if a then without_forwarded g fs else x ∷ without_forwarded g fs)
          ≡ (if a then forwarded_for h (without_forwarded g fs) else (if pairs h x.heading then Some x else forwarded_for h (without_forwarded g fs)))
      split true = refl
      split false = refl

      by : (a b c : Bool) → (a ≡ true → c ≡ b) → (c ≡ true → b ≡ a) → (o : Option Forwarded) → o ≡ (if c then None else forwarded_for h fs) →
          (if a then o else (if b then Some x else o)) ≡ (if c then None else (if b then Some x else forwarded_for h fs))
      by true b true r l o ih = ih
      by true true false r l o ih = cc (r refl)
      by true false false r l o ih = ih
      by false true true r l o ih = cc (l refl)
      by false true false r l o ih = refl
      by false false true r l o ih = ih
      by false false false r l o ih = ih

module _ (R : List (List ℕ × Meaning) → ℕ → Type 0) where
  -- none waits at first
  pub waiting-none : Waiting R [] (λ h. None)
  waiting-none h = tt

  -- behind a forward heading
  pub waiting-forward : (fs : List Forwarded) (o : Heading → Option ℕ) (f : Forwarded) (n : ℕ) → f.heading.is_forward ≡ true → R f.parameters n → Waiting R fs o →
      Waiting R (fs ++ f ∷ []) (λ h. waits h f.heading n (o h))
  waiting-forward fs o f n is r w h =
      subst (λ x. GivenBy R x (waits h f.heading n (o h))) (sym (for-more h fs f))
      (subst (λ b. GivenBy R (option_or (forwarded_for h fs) (if pairs h f.heading then Some f else None)) (if pairs h f.heading then (if b then option_or (o h) (Some n) else None) else o h)) (sym is)
      (by (pairs h f.heading) (forwarded_for h fs) (o h) (w h))) where
        by : (b : Bool) (x : Option Forwarded) (y : Option ℕ) → GivenBy R x y → GivenBy R (option_or x (if b then Some f else None)) (if b then option_or y (Some n) else y)
        by true None None g = r
        by true (Some x) (Some y) g = g
        by true None (Some y) g = absurd g
        by true (Some x) None g = absurd g
        by false None None g = g
        by false (Some x) (Some y) g = g
        by false None (Some y) g = absurd g
        by false (Some x) None g = absurd g

  -- behind a routine with a block, which ends the waiting of those that pair with it
  pub waiting-ended : (fs : List Forwarded) (o : Heading → Option ℕ) (g : Heading) (n : ℕ) → g.is_forward ≡ false → Waiting R fs o → Waiting R (without_forwarded g fs) (λ h. waits h g n (o h))
  waiting-ended fs o g n is w h =
      subst (λ x. GivenBy R x (waits h g n (o h))) (sym (for-without h g fs))
      (subst (λ b. GivenBy R (if pairs h g then None else forwarded_for h fs) (if pairs h g then (if b then option_or (o h) (Some n) else None) else o h)) (sym is)
      (elim (pairs h g) as (λ (b : Bool). GivenBy R (if b then None else forwarded_for h fs) (if b then None else o h)) [ true ↦ tt | false ↦ w h ]))

-- the number by places, one routine on
pub waiting-next : (h : Heading) (n : ℕ) (before : Option ℕ) (gs : List Heading) (g : Heading) → waiting_for h n before (gs ++ g ∷ []) ≡ waits h g (n + length gs) (waiting_for h n before gs)
waiting-next h n before [] g = ap (λ m. waits h g m before) (same n) where
  same : (m : ℕ) → m ≡ m + 0
  same m = omega arith
waiting-next h n before (x ∷ gs) g = waiting-next h (suc n) (waits h x n before) gs g ∙ ap (λ m. waits h g m (waiting_for h (suc n) (waits h x n before) gs)) (more n (length gs)) where
  more : (i m : ℕ) → suc i + m ≡ i + suc m
  more i m = omega arith

-- the headings of a list backwards: those that a Local has as waiting
abbrev pub backwards : List Forwarded → List Heading
backwards [] = []
backwards (f ∷ fs) = backwards fs ++ f.heading ∷ []

any-append : (h : Heading) (xs ys : List Heading) → any_pairs h (xs ++ ys) ≡ (any_pairs h xs || any_pairs h ys)
any-append h [] ys = refl
any-append h (x ∷ xs) ys =
    elim (pairs h x) as (λ (b : Bool). (b || any_pairs h (xs ++ ys)) ≡ ((b || any_pairs h xs) || any_pairs h ys)) [
      | true ↦ refl
      | false ↦ any-append h xs ys
    ]

without-append : (h : Heading) (xs ys : List Heading) → without_pairs h (xs ++ ys) ≡ without_pairs h xs ++ without_pairs h ys
without-append h [] ys = refl
without-append h (x ∷ xs) ys =
    elim (pairs h x) as (λ (b : Bool). (if b then without_pairs h (xs ++ ys) else x ∷ without_pairs h (xs ++ ys)) ≡ (if b then without_pairs h xs else x ∷ without_pairs h xs) ++ without_pairs h ys) [
      | true ↦ without-append h xs ys
      | false ↦ ap (λ zs. x ∷ zs) (without-append h xs ys)
    ]

pub any-backwards : (h : Heading) (fs : List Forwarded) → any_pairs h (backwards fs) ≡ is_some (forwarded_for h fs)
any-backwards h [] = refl
any-backwards h (f ∷ fs) =
    any-append h (backwards fs) (f.heading ∷ []) ∙ ap (λ b. b || (pairs h f.heading || false)) (any-backwards h fs)
    ∙ by (is_some (forwarded_for h fs)) (pairs h f.heading) (forwarded_for h fs) refl where
      by : (a b : Bool) (o : Option Forwarded) → a ≡ is_some o → (a || (b || false)) ≡ is_some (if b then Some f else o)
      by true true o e = refl
      by true false o e = e
      by false true o e = refl
      by false false o e = e

pub backwards-more : (fs : List Forwarded) (f : Forwarded) → backwards (fs ++ f ∷ []) ≡ f.heading ∷ backwards fs
backwards-more [] f = refl
backwards-more (x ∷ fs) f = ap (λ zs. zs ++ x.heading ∷ []) (backwards-more fs f)

pub backwards-without : (h : Heading) (fs : List Forwarded) → without_pairs h (backwards fs) ≡ backwards (without_forwarded h fs)
backwards-without h [] = refl
backwards-without h (f ∷ fs) =
    without-append h (backwards fs) (f.heading ∷ [])
    ∙ elim (pairs h f.heading) as (λ (b : Bool).
    without_pairs h (backwards fs) ++ (if b then [] else f.heading ∷ []) ≡ backwards (if b then without_forwarded h fs else f ∷ without_forwarded h fs)) [
      | true ↦ append-nil (without_pairs h (backwards fs)) ∙ backwards-without h fs
      | false ↦ ap (λ zs. zs ++ f.heading ∷ []) (backwards-without h fs)
    ]
