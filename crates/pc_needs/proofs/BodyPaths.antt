-- The paths of routines, and their own blocks, by the structure of the tree alone.
use Rattle.std.specs.Prelude.{ℕ, suc, ◌≡◌, ◌⊎◌, ◌≤◌, Bool, true, false, List, [], ◌∷◌, Option, ◌++◌}
use Rattle.std.proofs.Common.{refl, ap, sym, ◌∙◌, true≢false, inl, inr, arith, append_assoc}
use Rattle.pc_syntax.specs.declared.kind.Kind.{Kind}
use Rattle.pc_syntax.specs.declared.kind.Kind.TheVariants as kind
use Rattle.pc_syntax.specs.Plain.{Forest, Nil, Cons}
use Rattle.pc_scope.specs.Blocks.{block_kids, kid_count}
use Rattle.pc_rules.specs.Attributes.{Attributes, first}
use Rattle.pc_rules.specs.Decorated.{decorate}
use Rattle.pc_rules.specs.Meanings.{Found, Local, find}
use Rattle.pc_rules.specs.OwnBlock.{own}
use Rattle.pc_rules.specs.Places.{inner, beside}
use Rattle.pc_rules.specs.RoutineList.{Forwarded, routine_of, key_of, forwarded_by, Part, ARoutine, AllRoutines, NoRoutine, part_of, routines_in, routines_below}
use Rattle.pc_rules.specs.Routines.{Routine, bare, start_of}
use Rattle.pc_needs.proofs.HeadingKinds.{is_the_block}
use Rattle.pc_needs.proofs.Lists.{Each, each-append, each-map}
use Rattle.pc_needs.proofs.PlaceLemmas.{of-part}

-- a routine's place, and its own block
abbrev pub Entry : Type 0
Entry = List ℕ × Forest

abbrev pub entries : List Routine → List Entry
entries [] = []
entries (r ∷ rs) = (r.place, r.block) ∷ entries rs

entries-append : (rs us : List Routine) → entries (rs ++ us) ≡ entries rs ++ entries us
entries-append [] us = refl
entries-append (r ∷ rs) us = ap (λ es. (r.place, r.block) ∷ es) (entries-append rs us)

-- the same by structure: of trees in a row, the first with this number, and below a routine at a place
abbrev mutual
  pub blocks_in : ℕ → List ℕ → Forest → List Entry
  blocks_in c p Nil = []
  blocks_in c p (Cons k w ns ks ts) = elim (part_of k) [
    | ARoutine ↦ ((p ++ c ∷ [], own (block_kids ks)) ∷ blocks_below (p ++ c ∷ []) 1 ks) ++ blocks_in (suc c) p ts
    | AllRoutines ↦ blocks_in 1 (p ++ c ∷ []) ks
    | NoRoutine ↦ blocks_in (suc c) p ts
  ]

  pub blocks_below : List ℕ → ℕ → Forest → List Entry
  blocks_below q i Nil = []
  blocks_below q i (Cons kind.Block w ns ks ts) = blocks_in 1 (q ++ i ∷ []) ks
  blocks_below q i (Cons k w ns ks ts) = blocks_below q (suc i) ts

pub blocks-routine : (c : ℕ) (p : List ℕ) (k : Kind) (w : List ℕ) (ns : List (List ℕ)) (ks ts : Forest) → part_of k ≡ ARoutine →
    blocks_in c p (Cons k w ns ks ts) ≡ ((p ++ c ∷ [], own (block_kids ks)) ∷ blocks_below (p ++ c ∷ []) 1 ks) ++ blocks_in (suc c) p ts
blocks-routine c p k w ns ks ts e = ap (λ (x : Part). elim x [
  | ARoutine ↦ ((p ++ c ∷ [], own (block_kids ks)) ∷ blocks_below (p ++ c ∷ []) 1 ks) ++ blocks_in (suc c) p ts
  | AllRoutines ↦ blocks_in 1 (p ++ c ∷ []) ks
  | NoRoutine ↦ blocks_in (suc c) p ts
]) e

pub blocks-none : (c : ℕ) (p : List ℕ) (k : Kind) (w : List ℕ) (ns : List (List ℕ)) (ks ts : Forest) → part_of k ≡ NoRoutine → blocks_in c p (Cons k w ns ks ts) ≡ blocks_in (suc c) p ts
blocks-none c p k w ns ks ts e = ap (λ (x : Part). elim x [
  | ARoutine ↦ ((p ++ c ∷ [], own (block_kids ks)) ∷ blocks_below (p ++ c ∷ []) 1 ks) ++ blocks_in (suc c) p ts
  | AllRoutines ↦ blocks_in 1 (p ++ c ∷ []) ks
  | NoRoutine ↦ blocks_in (suc c) p ts
]) e

pub blocks-all : (c : ℕ) (p : List ℕ) (k : Kind) (w : List ℕ) (ns : List (List ℕ)) (ks ts : Forest) → part_of k ≡ AllRoutines → blocks_in c p (Cons k w ns ks ts) ≡ blocks_in 1 (p ++ c ∷ []) ks
blocks-all c p k w ns ks ts e = ap (λ (x : Part). elim x [
  | ARoutine ↦ ((p ++ c ∷ [], own (block_kids ks)) ∷ blocks_below (p ++ c ∷ []) 1 ks) ++ blocks_in (suc c) p ts
  | AllRoutines ↦ blocks_in 1 (p ++ c ∷ []) ks
  | NoRoutine ↦ blocks_in (suc c) p ts
]) e

pub blocks-next : (q : List ℕ) (i : ℕ) (k : Kind) (w : List ℕ) (ns : List (List ℕ)) (ks ts : Forest) → is_the_block k ≡ false → blocks_below q i (Cons k w ns ks ts) ≡ blocks_below q (suc i) ts
blocks-next q i kind.Block w ns ks ts e = absurd (true≢false e)
blocks-next q i _ w ns ks ts e = refl

mutual
  unfolding routines_in

  pub entries-in : (m : List ℕ → Found) (l : Local) (fs : List Forwarded) (p : List ℕ) (key : Option (List (List ℕ))) (f : Forest) → entries (routines_in m l fs p key f) ≡ blocks_in l.kid p f
  entries-in m l fs p key Nil = refl
  entries-in m l fs p key (Cons k w ns ks ts) =
      let a : Attributes = first (decorate (bare m) l (own (Cons k w ns ks Nil))) in
      let after : Local = beside l k a in
      let r : Routine = routine_of (find (bare m) after) l fs (p ++ l.kid ∷ []) key k ks in
      of-part (λ rs. entries rs ≡ blocks_in l.kid p (Cons k w ns ks ts)) (part_of k) _ _ _
      (λ e. entries-append (r ∷ routines_below r 1 ks) (routines_in m after (forwarded_by l r fs) p key ts)
      ∙ (λ i. ((p ++ l.kid ∷ [], own (block_kids ks)) ∷ entries-below r 1 ks i) ++ entries-in m after (forwarded_by l r fs) p key ts i)
      ∙ sym (blocks-routine l.kid p k w ns ks ts e))
      (λ e. entries-in m (inner l k ks) [] (p ++ l.kid ∷ []) key ks ∙ sym (blocks-all l.kid p k w ns ks ts e))
      (λ e. entries-in m after fs p key ts ∙ sym (blocks-none l.kid p k w ns ks ts e))

  pub entries-below : (r : Routine) (i : ℕ) (f : Forest) → entries (routines_below r i f) ≡ blocks_below r.place i f
  entries-below r i Nil = refl
  entries-below r i (Cons kind.Block w ns ks ts) = entries-in r.means (start_of r) [] (r.place ++ i ∷ []) (key_of r.owner) ks
  entries-below r i (Cons k w ns ks ts) = entries-below r (suc i) ts

-- ---- where a routine stands

-- a path leads to a routine with so many kids
abbrev mutual
  pub InRow : ℕ → Forest → ℕ → List ℕ → ℕ → Type 0
  InRow c Nil j js n = ⊥
  InRow c (Cons k w ns ks ts) j [] n = ((part_of k ≡ ARoutine) × (c ≡ j) × (n ≡ kid_count ks)) ⊎ ((part_of k ≡ AllRoutines → ⊥) × InRow (suc c) ts j [] n)
  InRow c (Cons k w ns ks ts) j (a ∷ more) n =
      ((part_of k ≡ ARoutine) × (c ≡ j) × InBelow 1 ks a more n)
      ⊎ (((part_of k ≡ AllRoutines) × (c ≡ j) × InRow 1 ks a more n) ⊎ ((part_of k ≡ AllRoutines → ⊥) × InRow (suc c) ts j (a ∷ more) n))

  pub InBelow : ℕ → Forest → ℕ → List ℕ → ℕ → Type 0
  InBelow i Nil a more n = ⊥
  InBelow i (Cons kind.Block w ns ks ts) a [] n = ⊥
  InBelow i (Cons kind.Block w ns ks ts) a (b ∷ more) n = (i ≡ a) × InRow 1 ks b more n
  InBelow i (Cons k w ns ks ts) a more n = InBelow (suc i) ts a more n

pub below-further : (i : ℕ) (k : Kind) (w : List ℕ) (ns : List (List ℕ)) (ks ts : Forest) (a : ℕ) (more : List ℕ) (n : ℕ) → is_the_block k ≡ false →
    InBelow i (Cons k w ns ks ts) a more n → InBelow (suc i) ts a more n
below-further i kind.Block w ns ks ts a more n e h = absurd (true≢false e)
below-further i _ w ns ks ts a more n e h = h

-- a path doesn't lead back
pub row-least : (c : ℕ) (f : Forest) (j : ℕ) (js : List ℕ) (n : ℕ) → InRow c f j js n → c ≤ j
row-least c Nil j js n h = absurd h
row-least c (Cons k w ns ks ts) j [] n (inl h) = let e = h.1 in omega (arith, e)
row-least c (Cons k w ns ks ts) j [] n (inr h) = let l = row-least (suc c) ts j [] n h.1 in omega (arith, l)
row-least c (Cons k w ns ks ts) j (a ∷ more) n (inl h) = let e = h.1 in omega (arith, e)
row-least c (Cons k w ns ks ts) j (a ∷ more) n (inr (inl h)) = let e = h.1 in omega (arith, e)
row-least c (Cons k w ns ks ts) j (a ∷ more) n (inr (inr h)) = let l = row-least (suc c) ts j (a ∷ more) n h.1 in omega (arith, l)

pub below-least : (i : ℕ) (f : Forest) (a : ℕ) (more : List ℕ) (n : ℕ) → InBelow i f a more n → i ≤ a
below-least i Nil a more n h = absurd h
below-least i (Cons kind.Block w ns ks ts) a [] n h = absurd h
below-least i (Cons kind.Block w ns ks ts) a (b ∷ more) n h = let e = h.0 in omega (arith, e)
below-least i (Cons k w ns ks ts) a more n h = let l = below-least (suc i) ts a more n h in omega (arith, l)

-- so a routine stands in some trees, or below another
abbrev pub IsAt : List ℕ → ℕ → Forest → Routine → Type 0
IsAt p c f x = (j : ℕ) × (js : List ℕ) × (x.place ≡ p ++ j ∷ js) × InRow c f j js x.block_kid

abbrev pub IsUnder : List ℕ → ℕ → Forest → Routine → Type 0
IsUnder q i f x = (j : ℕ) × (js : List ℕ) × (x.place ≡ q ++ j ∷ js) × InBelow i f j js x.block_kid

behind-at : (p : List ℕ) (c : ℕ) (k : Kind) (w : List ℕ) (ns : List (List ℕ)) (ks ts : Forest) (x : Routine) → (part_of k ≡ AllRoutines → ⊥) → IsAt p (suc c) ts x → IsAt p c (Cons k w ns ks ts) x
behind-at p c k w ns ks ts x other h = (h.0, h.1, h.2, by h.1 h.3) where
  by : (js : List ℕ) → InRow (suc c) ts h.0 js x.block_kid → InRow c (Cons k w ns ks ts) h.0 js x.block_kid
  by [] g = inr (other, g)
  by (a ∷ more) g = inr (inr (other, g))

deeper : (p : List ℕ) (c j : ℕ) (js : List ℕ) (x : Routine) → x.place ≡ (p ++ c ∷ []) ++ j ∷ js → x.place ≡ p ++ c ∷ j ∷ js
deeper p c j js x e = e ∙ append_assoc p (c ∷ []) (j ∷ js)

is_all : Part → Bool
is_all ARoutine = false
is_all AllRoutines = true
is_all NoRoutine = false

routine-not : (q : Part) → q ≡ ARoutine → q ≡ AllRoutines → ⊥
unfolding is_all
routine-not q e h = true≢false (sym (ap is_all h) ∙ ap is_all e)

pub none-not : (q : Part) → q ≡ NoRoutine → q ≡ AllRoutines → ⊥
unfolding is_all
none-not q e h = true≢false (sym (ap is_all h) ∙ ap is_all e)

mutual
  unfolding routines_in

  pub stand-in : (m : List ℕ → Found) (l : Local) (fs : List Forwarded) (p : List ℕ) (key : Option (List (List ℕ))) (f : Forest) → Each (IsAt p l.kid f) (routines_in m l fs p key f)
  stand-in m l fs p key Nil = tt
  stand-in m l fs p key (Cons k w ns ks ts) =
      let a : Attributes = first (decorate (bare m) l (own (Cons k w ns ks Nil))) in
      let after : Local = beside l k a in
      let r : Routine = routine_of (find (bare m) after) l fs (p ++ l.kid ∷ []) key k ks in
      of-part (Each (IsAt p l.kid (Cons k w ns ks ts))) (part_of k) _ _ _
      (λ e. each-append (IsAt p l.kid (Cons k w ns ks ts)) (r ∷ routines_below r 1 ks) _ (
        (l.kid, [], refl, inl (e, refl, refl)),
        each-map (IsUnder r.place 1 ks) (IsAt p l.kid (Cons k w ns ks ts)) (routines_below r 1 ks) (λ x h. (l.kid, h.0 ∷ h.1, deeper p l.kid h.0 h.1 x h.2, inl (e, refl, h.3))) (stand-below r 1 ks),
      )
      (each-map (IsAt p (suc l.kid) ts) (IsAt p l.kid (Cons k w ns ks ts)) _ (λ x h. behind-at p l.kid k w ns ks ts x (routine-not (part_of k) e) h) (stand-in m after (forwarded_by l r fs) p key ts)))
      (λ e. each-map (IsAt (p ++ l.kid ∷ []) 1 ks) (IsAt p l.kid (Cons k w ns ks ts)) _ (λ x h. (l.kid, h.0 ∷ h.1, deeper p l.kid h.0 h.1 x h.2, inr (inl (e, refl, h.3))))
      (stand-in m (inner l k ks) [] (p ++ l.kid ∷ []) key ks))
      (λ e. each-map (IsAt p (suc l.kid) ts) (IsAt p l.kid (Cons k w ns ks ts)) _ (λ x h. behind-at p l.kid k w ns ks ts x (none-not (part_of k) e) h) (stand-in m after fs p key ts))

  pub stand-below : (r : Routine) (i : ℕ) (f : Forest) → Each (IsUnder r.place i f) (routines_below r i f)
  stand-below r i Nil = tt
  stand-below r i (Cons kind.Block w ns ks ts) =
      each-map (IsAt (r.place ++ i ∷ []) 1 ks) (IsUnder r.place i (Cons kind.Block w ns ks ts)) (routines_in r.means (start_of r) [] (r.place ++ i ∷ []) (key_of r.owner) ks)
      (λ x h. (i, h.0 ∷ h.1, deeper r.place i h.0 h.1 x h.2, (refl, h.3))) (stand-in r.means (start_of r) [] (r.place ++ i ∷ []) (key_of r.owner) ks)
  stand-below r i (Cons k w ns ks ts) = stand-below r (suc i) ts
