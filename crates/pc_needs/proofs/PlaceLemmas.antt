-- Places: the routines of some trees stand below the node around.
use Rattle.std.specs.Prelude.{ℕ, suc, ◌≡◌, true, ◌==◌, List, [], ◌∷◌, Option, ◌++◌}
use Rattle.std.proofs.Common.{refl, sym, true≢false, inl, inr}
use Rattle.std.proofs.lemmas.Bool.{and_parts, and_from, eq-eqb}
use Rattle.pc_syntax.specs.declared.kind.Kind.TheVariants as kind
use Rattle.pc_syntax.specs.Plain.{Forest, Nil, Cons}
use Rattle.pc_rules.specs.Attributes.{Attributes, first}
use Rattle.pc_rules.specs.Decorated.{decorate}
use Rattle.pc_rules.specs.Meanings.{Found, Local, find}
use Rattle.pc_rules.specs.OwnBlock.{own, heading_part}
use Rattle.pc_rules.specs.Places.{inner, beside}
use Rattle.pc_rules.specs.RoutineList.{Forwarded, routine_of, key_of, forwarded_by, Part, ARoutine, AllRoutines, NoRoutine, part_of, routines_in, routines_below}
use Rattle.pc_rules.specs.Routines.{Routine, bare, start_of}
use Rattle.pc_needs.specs.Answers.{has_block}
use Rattle.pc_needs.specs.Inside.{is_below}
use Rattle.pc_needs.specs.Unaffected.{IsOneOf}
use Rattle.pc_needs.proofs.Lists.{Each, each-append, each-map}

-- a list of routines by what its node is, which is known in each case
pub of-part : (P : List Routine → Type 0) (q : Part) (a b c : List Routine) → (q ≡ ARoutine → P a) → (q ≡ AllRoutines → P b) → (q ≡ NoRoutine → P c) →
    P (elim q [ ARoutine ↦ a | AllRoutines ↦ b | NoRoutine ↦ c ])
of-part P ARoutine a b c x y z = x refl
of-part P AllRoutines a b c x y z = y refl
of-part P NoRoutine a b c x y z = z refl

-- one of some routines, among more
pub one-front : (rs us : List Routine) (r : Routine) → IsOneOf rs r → IsOneOf (rs ++ us) r
one-front [] us r h = absurd h
one-front (x ∷ rs) us r (inl e) = inl e
one-front (x ∷ rs) us r (inr h) = inr (one-front rs us r h)

pub one-back : (rs us : List Routine) (r : Routine) → IsOneOf us r → IsOneOf (rs ++ us) r
one-back [] us r h = h
one-back (x ∷ rs) us r h = inr (one-back rs us r h)

-- ---- places

pub number-same : (n : ℕ) → (n == n) ≡ true
number-same n = eq-eqb n n refl

below-kid : (p : List ℕ) (i : ℕ) → is_below p (p ++ i ∷ []) ≡ true
below-kid [] i = refl
below-kid (a ∷ p) i = and_from (a == a) _ (number-same a) (below-kid p i)

below-front : (p q : List ℕ) (i : ℕ) → is_below (p ++ i ∷ []) q ≡ true → is_below p q ≡ true
below-front [] [] i e = absurd (true≢false (sym e))
below-front [] (b ∷ q) i e = refl
below-front (a ∷ p) [] i e = absurd (true≢false (sym e))
below-front (a ∷ p) (b ∷ q) i e =
    let both = and_parts (a == b) (is_below (p ++ i ∷ []) q) e in
    and_from (a == b) (is_below p q) both.0 (below-front p q i both.1)

-- a routine below a node
abbrev pub StandsBelow : List ℕ → Routine → Type 0
StandsBelow p r = is_below p r.place ≡ true

-- below a kid
kid-front : (p : List ℕ) (i : ℕ) (rs : List Routine) → Each (StandsBelow (p ++ i ∷ [])) rs → Each (StandsBelow p) rs
kid-front p i rs h = each-map (StandsBelow (p ++ i ∷ [])) (StandsBelow p) rs (λ r e. below-front p r.place i e) h

mutual
  unfolding routines_in

  pub places-in : (m : List ℕ → Found) (l : Local) (fs : List Forwarded) (p : List ℕ) (key : Option (List (List ℕ))) (f : Forest) → Each (StandsBelow p) (routines_in m l fs p key f)
  places-in m l fs p key Nil = tt
  places-in m l fs p key (Cons k v ns ks ts) =
      let a : Attributes = first (decorate (bare m) l (own (Cons k v ns ks Nil))) in
      let after : Local = beside l k a in
      let r : Routine = routine_of (find (bare m) after) l fs (p ++ l.kid ∷ []) key k ks in
      of-part (Each (StandsBelow p)) (part_of k) _ _ _
      (λ e. each-append (StandsBelow p) (r ∷ routines_below r 1 ks) _ (below-kid p l.kid, kid-front p l.kid _ (places-below r 1 ks)) (places-in m after (forwarded_by l r fs) p key ts))
      (λ e. kid-front p l.kid _ (places-in m (inner l k ks) [] (p ++ l.kid ∷ []) key ks))
      (λ e. places-in m after fs p key ts)

  pub places-below : (r : Routine) (i : ℕ) (f : Forest) → Each (StandsBelow r.place) (routines_below r i f)
  places-below r i Nil = tt
  places-below r i (Cons kind.Block v ns ks ts) = kid-front r.place i _ (places-in r.means (start_of r) [] (r.place ++ i ∷ []) (key_of r.owner) ks)
  places-below r i (Cons k v ns ks ts) = places-below r (suc i) ts

-- ---- blocks

-- a heading stands before a block where the kids have one
pub block-heading : (f : Forest) → has_block (heading_part f) ≡ has_block f
block-heading Nil = refl
block-heading (Cons kind.Block w ns ks ts) = refl
block-heading (Cons k w ns ks ts) = block-heading ts

all-so : (rs : List Routine) → Each (λ r. true ≡ true) rs
all-so [] = tt
all-so (r ∷ rs) = (refl, all-so rs)

-- where routines are inside a routine, it has a block
pub below-block : (r : Routine) (i : ℕ) (f : Forest) → Each (λ b. has_block f ≡ true) (routines_below r i f)
unfolding routines_below
below-block r i Nil = tt
below-block r i (Cons kind.Block v ns ks ts) = all-so (routines_in r.means (start_of r) [] (r.place ++ i ∷ []) (key_of r.owner) ks)
below-block r i (Cons k v ns ks ts) = below-block r (suc i) ts
