-- A routine that is a node of a list is one of the routines of the block.
use Rattle.std.specs.Prelude.{ℕ, zero, suc, ◌≡◌, ◌+◌, Bool, true, false, ◌||◌, List, [], ◌∷◌, ◌++◌, Option, Some, slice_get}
use Rattle.std.proofs.Common.{refl, ap, sym, subst, ◌∙◌, arith}
use Rattle.pc_syntax.specs.declared.kind.Kind.{Kind}
use Rattle.pc_syntax.specs.declared.kind.Kind.TheVariants as kind
use Rattle.pc_syntax.specs.Plain.{Forest, Nil, Cons, Plain, trees_of}
use Rattle.pc_scope.specs.Blocks.{kid_count}
use Rattle.pc_scope.specs.Headings.{is_routine_kind}
use Rattle.pc_needs.specs.Unaffected.{IsOneOf}
use Rattle.pc_needs.proofs.BodyKinds.{Passes}
use Rattle.pc_needs.proofs.HeadingKinds.{routine-part}
use Rattle.pc_needs.proofs.PlaceLemmas.{one-front, one-back}
use Rattle.pc_program_laws.specs.Routines.{has_heading, behind_first, routine_here, routines_start}
use Rattle.pc_program_laws.proofs.RoutineLemmas.{routines-law}
use Rattle.pc_rules.specs.Meanings.{Found, Local}
use Rattle.pc_rules.specs.RoutineList.{Forwarded, forwarded_by, routines_in, routines_below}
use Rattle.pc_rules.specs.Routines.{Routine}
use Rattle.pc_found_laws.proofs.NodeLemmas.{tree_of}
use Rattle.pc_found_laws.proofs.OuterKinds.{is_outer}
use Rattle.pc_found_laws.proofs.OuterRows.{is_listed}
use Rattle.pc_found_laws.proofs.OuterWays.{outer-part}

-- ---- the routines of a list

-- a node of a list is one of these routines, and so are those inside it
pub record IsListed (rs : List Routine) (place : List ℕ) (z : Plain) : Type 0 where
  pub routine : Routine
  pub place_is : routine.place ≡ place
  pub count_is : routine.block_kid ≡ kid_count z.kids
  pub all : (s : Routine) → IsOneOf (routine ∷ routines_below routine 1 z.kids) s → IsOneOf rs s

first-listed : (m : List ℕ → Found) (l : Local) (fs : List Forwarded) (p : List ℕ) (key : Option (List (List ℕ))) (k : Kind) (w : List ℕ) (ns : List (List ℕ)) (ks ts : Forest) → is_routine_kind k ≡ true →
    IsListed (routines_in m l fs p key (Cons k w ns ks ts)) (p ++ (l.kid + 0) ∷ []) (tree_of k w ns ks)
first-listed m l fs p key k w ns ks ts e =
    let r : Routine = routine_here m l fs p key k w ns ks in
    let behind : List Routine = routines_in m (behind_first m l k w ns ks) (forwarded_by l r fs) p key ts in
    let same : l.kid ≡ l.kid + 0 = omega arith in
    record {
      routine = r;
      place_is = ap (λ (n : ℕ). p ++ n ∷ []) same;
      count_is = refl;
      all = λ s one. subst (λ (rs : List Routine). IsOneOf rs s) (sym (routines-law.next m l fs p key k w ns ks ts (routine-part k e))) (one-front (r ∷ routines_below r 1 ks) behind s one);
    }

-- behind a node the same holds
next-listed : (m : List ℕ → Found) (l : Local) (fs : List Forwarded) (p : List ℕ) (key : Option (List (List ℕ))) (k : Kind) (w : List ℕ) (ns : List (List ℕ)) (ks ts : Forest) (i : ℕ) (z : Plain) →
    is_listed k ≡ true → ((gs : List Forwarded) → IsListed (routines_in m (behind_first m l k w ns ks) gs p key ts) (p ++ (suc l.kid + i) ∷ []) z) →
    IsListed (routines_in m l fs p key (Cons k w ns ks ts)) (p ++ (l.kid + suc i) ∷ []) z
next-listed m l fs p key k w ns ks ts i z h rest = which (is_routine_kind k) refl h where
  place : suc l.kid + i ≡ l.kid + suc i
  place = omega arith

  from : (gs : List Forwarded) → ((s : Routine) → IsOneOf (routines_in m (behind_first m l k w ns ks) gs p key ts) s → IsOneOf (routines_in m l fs p key (Cons k w ns ks ts)) s) →
      IsListed (routines_in m l fs p key (Cons k w ns ks ts)) (p ++ (l.kid + suc i) ∷ []) z
  from gs lift =
      let d = rest gs in
      record { routine = d.routine; place_is = d.place_is ∙ ap (λ (n : ℕ). p ++ n ∷ []) place; count_is = d.count_is; all = λ s one. lift s (d.all s one) }

  which : (b : Bool) → is_routine_kind k ≡ b → (b || is_outer k) ≡ true → IsListed (routines_in m l fs p key (Cons k w ns ks ts)) (p ++ (l.kid + suc i) ∷ []) z
  which true e g =
      let r : Routine = routine_here m l fs p key k w ns ks in
      let behind : List Routine = routines_in m (behind_first m l k w ns ks) (forwarded_by l r fs) p key ts in
      from (forwarded_by l r fs)
      (λ s one. subst (λ (rs : List Routine). IsOneOf rs s) (sym (routines-law.next m l fs p key k w ns ks ts (routine-part k e))) (one-back (r ∷ routines_below r 1 ks) behind s one))
  which false e g = from fs (λ s one. subst (λ (rs : List Routine). IsOneOf rs s) (sym (routines-law.other m l fs p key k w ns ks ts (outer-part k g))) one)

pub listed : (i : ℕ) (m : List ℕ → Found) (l : Local) (fs : List Forwarded) (p : List ℕ) (key : Option (List (List ℕ))) (f : Forest) (z : Plain) → Passes is_listed f →
    slice_get (trees_of f) i ≡ Some z → is_routine_kind z.kind ≡ true → IsListed (routines_in m l fs p key f) (p ++ (l.kid + i) ∷ []) z
listed i m l fs p key Nil z h e r = cc
listed zero m l fs p key (Cons k w ns ks ts) z h e r =
    let same : tree_of k w ns ks ≡ z = cc in
    subst (λ (y : Plain). IsListed (routines_in m l fs p key (Cons k w ns ks ts)) (p ++ (l.kid + 0) ∷ []) y) same
    (first-listed m l fs p key k w ns ks ts (subst (λ (y : Plain). is_routine_kind y.kind ≡ true) (sym same) r))
listed (suc i) m l fs p key (Cons k w ns ks ts) z h e r = next-listed m l fs p key k w ns ks ts i z h.0 (λ gs. listed i m (behind_first m l k w ns ks) gs p key ts z h.1 e r)

-- where the first routine of a block stands is counted from 1
pub start-kid : (m : List ℕ → Found) (l : Local) (f : Forest) → l.kid ≡ 1 → (routines_start m l f).kid ≡ 1
start-kid m l Nil e = e
start-kid m l (Cons a v1 n1 k1 Nil) e = e
start-kid m l (Cons a v1 n1 k1 (Cons b v2 n2 k2 Nil)) e = e
start-kid m l (Cons a v1 n1 k1 (Cons b v2 n2 k2 (Cons c v3 n3 k3 Nil))) e = e
start-kid m l (Cons a v1 n1 k1 (Cons b v2 n2 k2 (Cons c v3 n3 k3 (Cons d v4 n4 k4 ts)))) e = refl

-- each kid of a list is one of these
pub pass-at : (f : Forest) (i : ℕ) (z : Plain) → Passes is_listed f → slice_get (trees_of f) i ≡ Some z → is_listed z.kind ≡ true
pass-at Nil i z h e = cc
pass-at (Cons k w ns ks ts) zero z h e = let same : tree_of k w ns ks ≡ z = cc in subst (λ (y : Plain). is_listed y.kind ≡ true) same h.0
pass-at (Cons k w ns ks ts) (suc i) z h e = pass-at ts i z h.1 e

-- a routine has a heading
pub routine-headed : (k : Kind) → is_routine_kind k ≡ true → has_heading k ≡ true
routine-headed kind.Program e = refl
routine-headed _ e = e
