-- The routines inside a routine are those below its node.
use Rattle.std.specs.Prelude.{ℕ, zero, suc, ◌≡◌, ◌≤◌, Bool, true, false, if◌then◌else◌, List, [], ◌∷◌, Option, Some, ◌++◌}
use Rattle.std.proofs.Common.{refl, ap, sym, subst, ◌∙◌, inl, arith, append_assoc}
use Rattle.pc_syntax.specs.declared.kind.Kind.{Kind}
use Rattle.pc_syntax.specs.declared.kind.Kind.TheVariants as kind
use Rattle.pc_syntax.specs.Places.{at}
use Rattle.pc_syntax.specs.Plain.{Forest, Nil, Cons, Plain, kids_of}
use Rattle.pc_syntax.specs.WellFormed.{WellFormed, IsProper}
use Rattle.pc_rules.specs.Attributes.{Attributes, first}
use Rattle.pc_rules.specs.Decorated.{decorate}
use Rattle.pc_rules.specs.Meanings.{Found, Local, find}
use Rattle.pc_rules.specs.OwnBlock.{own}
use Rattle.pc_rules.specs.Places.{inner, beside}
use Rattle.pc_rules.specs.RoutineList.{Forwarded, routine_of, key_of, forwarded_by, part_of, routines_in, routines_below, program_routine, routines_of}
use Rattle.pc_rules.specs.Routines.{Routine, bare, start_of}
use Rattle.pc_needs.specs.Inside.{is_below, inside}
use Rattle.pc_needs.proofs.Lists.{Each, each-append, each-map}
use Rattle.pc_needs.proofs.PlaceLemmas.{of-part, StandsBelow, places-below}
use Rattle.pc_program_laws.proofs.HoldsLemmas.{HoldsAt, kids_or, none-some, holds-behind, holds-well, holds-at, not-itself, not-above, not-beside}

-- ---- those of a list that are inside a routine

abbrev pub NotInside : Routine → Routine → Type 0
NotInside q y = is_below q.place y.place ≡ false

pub inside-append : (q : Routine) (xs ys : List Routine) → inside q (xs ++ ys) ≡ inside q xs ++ inside q ys
inside-append q [] ys = refl
inside-append q (x ∷ xs) ys = which (inside-append q xs ys) (is_below q.place x.place) where
  which : inside q (xs ++ ys) ≡ inside q xs ++ inside q ys → (b : Bool) →
      (if b then x ∷ inside q (xs ++ ys) else inside q (xs ++ ys)) ≡ (if b then x ∷ inside q xs else inside q xs) ++ inside q ys
  which e true = ap (λ (rs : List Routine). x ∷ rs) e
  which e false = e

inside-none : (q : Routine) (xs : List Routine) → Each (NotInside q) xs → inside q xs ≡ []
inside-none q [] h = refl
inside-none q (x ∷ xs) h = ap (λ b. if b then x ∷ inside q xs else inside q xs) h.0 ∙ inside-none q xs h.1

inside-all : (q : Routine) (xs : List Routine) → Each (StandsBelow q.place) xs → inside q xs ≡ xs
inside-all q [] h = refl
inside-all q (x ∷ xs) h = ap (λ b. if b then x ∷ inside q xs else inside q xs) h.0 ∙ ap (λ (rs : List Routine). x ∷ rs) (inside-all q xs h.1)

nothing-behind : (xs : List Routine) → xs ++ [] ≡ xs
nothing-behind [] = refl
nothing-behind (x ∷ xs) = ap (λ (rs : List Routine). x ∷ rs) (nothing-behind xs)

-- where those of one list are inside a routine, and none of the next
front-inside : (q : Routine) (xs ys zs : List Routine) → inside q xs ≡ zs → Each (NotInside q) ys → inside q (xs ++ ys) ≡ zs
front-inside q xs ys zs e h = inside-append q xs ys ∙ (λ i. e i ++ inside-none q ys h i) ∙ nothing-behind zs

back-inside : (q : Routine) (xs ys zs : List Routine) → Each (NotInside q) xs → inside q ys ≡ zs → inside q (xs ++ ys) ≡ zs
back-inside q xs ys zs h e = inside-append q xs ys ∙ ap (λ (rs : List Routine). rs ++ inside q ys) (inside-none q xs h) ∙ e

-- ---- places by kids

-- a routine stands at a kid, or below it
abbrev IsAtKid : List ℕ → ℕ → Routine → Type 0
IsAtKid p c y = (js : List ℕ) × (y.place ≡ p ++ c ∷ js)

-- at this kid or behind it, or below one of these
abbrev IsFromKid : List ℕ → ℕ → Routine → Type 0
IsFromKid p c y = (j : ℕ) × (c ≤ j) × (js : List ℕ) × (y.place ≡ p ++ j ∷ js)

before-not : (p : List ℕ) (c : ℕ) (x y : Routine) → IsAtKid p c x → IsFromKid p (suc c) y → NotInside x y
before-not p c x y h g = (λ i. is_below (h.1 i) (g.3 i)) ∙ not-beside p c g.0 h.0 g.2 (λ e. omega (arith, g.1, e))

behind-not : (p : List ℕ) (c : ℕ) (x y : Routine) → IsAtKid p c x → IsFromKid p (suc c) y → NotInside y x
behind-not p c x y h g = (λ i. is_below (g.3 i) (h.1 i)) ∙ not-beside p g.0 c g.2 h.0 (λ e. omega (arith, g.1, e))

deeper : (p : List ℕ) (c j : ℕ) (js : List ℕ) (x : Routine) → x.place ≡ (p ++ c ∷ []) ++ j ∷ js → x.place ≡ p ++ c ∷ j ∷ js
deeper p c j js x e = e ∙ append_assoc p (c ∷ []) (j ∷ js)

-- ---- each routine of some trees

-- a routine stands at the node with these kids, and those of a list that are inside it are those below it
abbrev IsSpread : List ℕ → ℕ → Forest → List Routine → Routine → Type 0
IsSpread p c f rs q =
    (j : ℕ) × (c ≤ j) × (js : List ℕ) × (ks : Forest) × (q.place ≡ p ++ j ∷ js) × HoldsAt c f j js ks × (inside q rs ≡ routines_below q 1 ks)

spread-from : (p : List ℕ) (c : ℕ) (f : Forest) (rs : List Routine) (q : Routine) → IsSpread p c f rs q → IsFromKid p c q
spread-from p c f rs q s = (s.0, s.1, s.2, s.4)

-- below a kid
spread-kid : (p : List ℕ) (c : ℕ) (k : Kind) (w : List ℕ) (ns : List (List ℕ)) (is ts : Forest) (rs : List Routine) (q : Routine) →
    IsSpread (p ++ c ∷ []) 1 is rs q → IsSpread p c (Cons k w ns is ts) rs q
spread-kid p c k w ns is ts rs q s = (c, omega arith, s.0 ∷ s.2, s.3, deeper p c s.0 s.2 q s.4, inl (refl, s.5), s.6)

-- behind a node
spread-behind : (p : List ℕ) (c : ℕ) (k : Kind) (w : List ℕ) (ns : List (List ℕ)) (is ts : Forest) (rs : List Routine) (q : Routine) →
    IsSpread p (suc c) ts rs q → IsSpread p c (Cons k w ns is ts) rs q
spread-behind p c k w ns is ts rs q s = (s.0, omega (arith, s.1), s.2, s.3, s.4, holds-behind c k w ns is ts s.0 s.2 s.3 s.5, s.6)

-- a routine, those below it, and those behind
joined-spread : (p : List ℕ) (c : ℕ) (k : Kind) (w : List ℕ) (ns : List (List ℕ)) (ks ts : Forest) (r : Routine) (us : List Routine) → r.place ≡ p ++ c ∷ [] →
    Each (IsSpread r.place 1 ks (routines_below r 1 ks)) (routines_below r 1 ks) → Each (IsSpread p (suc c) ts us) us →
    Each (IsSpread p c (Cons k w ns ks ts) ((r ∷ routines_below r 1 ks) ++ us)) ((r ∷ routines_below r 1 ks) ++ us)
joined-spread p c k w ns ks ts r us e inner behind =
    each-append (IsSpread p c (Cons k w ns ks ts) ((r ∷ routines_below r 1 ks) ++ us)) (r ∷ routines_below r 1 ks) us (itself, each-map (IsSpread r.place 1 ks (routines_below r 1 ks)) (IsSpread p c (Cons k w ns ks ts) ((r ∷ routines_below r 1 ks) ++ us)) (routines_below r 1 ks) below inner)
    (each-map (IsSpread p (suc c) ts us) (IsSpread p c (Cons k w ns ks ts) ((r ∷ routines_below r 1 ks) ++ us)) us after behind) where
      from : Each (IsFromKid p (suc c)) us
      from = each-map (IsSpread p (suc c) ts us) (IsFromKid p (suc c)) us (λ y s. spread-from p (suc c) ts us y s) behind

      here : IsAtKid p c r
      here = ([], e)

      at-kid : (q : Routine) → IsSpread r.place 1 ks (routines_below r 1 ks) q → IsAtKid p c q
      at-kid q s = (s.0 ∷ s.2, deeper p c s.0 s.2 q (s.4 ∙ ap (λ (x : List ℕ). x ++ s.0 ∷ s.2) e))

      not-behind : (q : Routine) → IsAtKid p c q → Each (NotInside q) us
      not-behind q h = each-map (IsFromKid p (suc c)) (NotInside q) us (λ y g. before-not p c q y h g) from

      itself : IsSpread p c (Cons k w ns ks ts) ((r ∷ routines_below r 1 ks) ++ us) r
      itself = (
        c,
        omega arith,
        [],
        ks,
        e,
        inl (refl, refl),
        front-inside r (r ∷ routines_below r 1 ks) us (routines_below r 1 ks) (ap (λ b. if b then r ∷ inside r (routines_below r 1 ks) else inside r (routines_below r 1 ks)) (not-itself r.place) ∙ inside-all r (routines_below r 1 ks) (places-below r 1 ks)) (not-behind r here),
      )

      below : (q : Routine) → IsSpread r.place 1 ks (routines_below r 1 ks) q → IsSpread p c (Cons k w ns ks ts) ((r ∷ routines_below r 1 ks) ++ us) q
      below q s = (
        c,
        omega arith,
        s.0 ∷ s.2,
        s.3,
        (at-kid q s).1,
        inl (refl, s.5),
        front-inside q (r ∷ routines_below r 1 ks) us (routines_below q 1 s.3)
            (ap (λ b. if b then r ∷ inside q (routines_below r 1 ks) else inside q (routines_below r 1 ks)) (ap (λ (x : List ℕ). is_below x r.place) s.4 ∙ not-above r.place s.0 s.2) ∙ s.6) (not-behind q (at-kid q s)),
      )

      after : (q : Routine) → IsSpread p (suc c) ts us q → IsSpread p c (Cons k w ns ks ts) ((r ∷ routines_below r 1 ks) ++ us) q
      after q s = (
        s.0,
        omega (arith, s.1),
        s.2,
        s.3,
        s.4,
        holds-behind c k w ns ks ts s.0 s.2 s.3 s.5,
        back-inside q (r ∷ routines_below r 1 ks) us (routines_below q 1 s.3) (
          behind-not p c r q here (spread-from p (suc c) ts us q s),
          each-map (IsSpread r.place 1 ks (routines_below r 1 ks)) (NotInside q) (routines_below r 1 ks) (λ x h. behind-not p c x q (at-kid x h) (spread-from p (suc c) ts us q s)) inner,
        ) s.6,
      )

mutual
  unfolding routines_in

  spread-in : (m : List ℕ → Found) (l : Local) (fs : List Forwarded) (p : List ℕ) (key : Option (List (List ℕ))) (f : Forest) →
      Each (IsSpread p l.kid f (routines_in m l fs p key f)) (routines_in m l fs p key f)
  spread-in m l fs p key Nil = tt
  spread-in m l fs p key (Cons k v ns ks ts) =
      let a : Attributes = first (decorate (bare m) l (own (Cons k v ns ks Nil))) in
      let after : Local = beside l k a in
      let r : Routine = routine_of (find (bare m) after) l fs (p ++ l.kid ∷ []) key k ks in
      of-part (λ rs. Each (IsSpread p l.kid (Cons k v ns ks ts) rs) rs) (part_of k) _ _ _
      (λ part. joined-spread p l.kid k v ns ks ts r (routines_in m after (forwarded_by l r fs) p key ts) refl (spread-below r 1 ks) (spread-in m after (forwarded_by l r fs) p key ts))
      (λ part.
      let rs : List Routine = routines_in m (inner l k ks) [] (p ++ l.kid ∷ []) key ks in
      each-map (IsSpread (p ++ l.kid ∷ []) 1 ks rs) (IsSpread p l.kid (Cons k v ns ks ts) rs) rs (λ q s. spread-kid p l.kid k v ns ks ts rs q s)
      (spread-in m (inner l k ks) [] (p ++ l.kid ∷ []) key ks))
      (λ part.
      let rs : List Routine = routines_in m after fs p key ts in
      each-map (IsSpread p (suc l.kid) ts rs) (IsSpread p l.kid (Cons k v ns ks ts) rs) rs (λ q s. spread-behind p l.kid k v ns ks ts rs q s) (spread-in m after fs p key ts))

  spread-below : (r : Routine) (i : ℕ) (f : Forest) → Each (IsSpread r.place i f (routines_below r i f)) (routines_below r i f)
  spread-below r i Nil = tt
  spread-below r i (Cons kind.Block v ns ks ts) =
      let rs : List Routine = routines_in r.means (start_of r) [] (r.place ++ i ∷ []) (key_of r.owner) ks in
      each-map (IsSpread (r.place ++ i ∷ []) 1 ks rs) (IsSpread r.place i (Cons kind.Block v ns ks ts) rs) rs (λ q s. spread-kid r.place i kind.Block v ns ks ts rs q s)
      (spread-in r.means (start_of r) [] (r.place ++ i ∷ []) (key_of r.owner) ks)
  spread-below r i (Cons k v ns ks ts) =
      let rs : List Routine = routines_below r (suc i) ts in
      each-map (IsSpread r.place (suc i) ts rs) (IsSpread r.place i (Cons k v ns ks ts) rs) rs (λ q s. spread-behind r.place i k v ns ks ts rs q s) (spread-below r (suc i) ts)

-- ---- a program

-- the node at a path has these kids
abbrev pub HoldsIn : Plain → List ℕ → Forest → Type 0
HoldsIn t [] ks = t.kids ≡ ks
HoldsIn t (j ∷ js) ks = HoldsAt 1 t.kids j js ks

-- a routine of a program and its node
abbrev pub IsSpreadIn : Plain → Routine → Type 0
IsSpreadIn t q = (ks : Forest) × HoldsIn t q.place ks × (inside q (routines_of t) ≡ routines_below q 1 ks)

pub routines-spread : (t : Plain) → Each (IsSpreadIn t) (routines_of t)
unfolding routines_of
routines-spread t = (
  (t.kids, refl, inside-all (program_routine t) (routines_below (program_routine t) 1 t.kids) (places-below (program_routine t) 1 t.kids)),
  each-map (IsSpread [] 1 t.kids (routines_below (program_routine t) 1 t.kids)) (IsSpreadIn t) (routines_below (program_routine t) 1 t.kids) lift (spread-below (program_routine t) 1 t.kids),
) where
  lift : (q : Routine) → IsSpread [] 1 t.kids (routines_below (program_routine t) 1 t.kids) q → IsSpreadIn t q
  lift q s = (
    s.3,
    subst (λ (p : List ℕ). HoldsIn t p s.3) (sym s.4) s.5,
    ap (λ b. if b then program_routine t ∷ inside q (routines_below (program_routine t) 1 t.kids) else inside q (routines_below (program_routine t) 1 t.kids)) (ap (λ (p : List ℕ). is_below p []) s.4) ∙ s.6,
  )

-- the node at that path
pub spread-at : (t x : Plain) (p : List ℕ) (ks : Forest) → HoldsIn t p ks → at p t ≡ Some x → x.kids ≡ ks
unfolding kids_of
spread-at t x [] ks h e = sym (ap (kids_or t.kids) e) ∙ h
spread-at t x (zero ∷ js) ks h e = absurd (none-some x e)
spread-at t x (suc i ∷ js) ks h e = holds-at 1 i t.kids (suc i) js ks x (omega arith) h e

pub spread-well : (t : Plain) (p : List ℕ) (ks : Forest) → IsProper t → HoldsIn t p ks → WellFormed ks
spread-well t [] ks proper h = subst WellFormed h proper.sound.3
spread-well t (j ∷ js) ks proper h = holds-well 1 t.kids j js ks h proper.sound.3
