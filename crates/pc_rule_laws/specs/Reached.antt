-- A used name of a block: its Local knows what stands before it.
use Rattle.std.proofs.Common.{Bool, List, None, Option, Some, [], ap, arith, eqb-true, false, if◌then◌else◌, le_of_eq, refl, suc, sym, true, ℕ, ◌++◌, ◌<◌, ◌==◌, ◌∷◌, ◌≡◌, ◌≤◌}
use Rattle.pc_rule_laws.specs.Agreement.{Arrived, Behind, Inside, Lost, Spot, spot}
use Rattle.pc_rule_laws.specs.Orderly.{IsNil}
use Rattle.pc_rule_laws.specs.Standing.{AllAre, Classed, Knows}
use Rattle.pc_rules.specs.Attributes.{first}
use Rattle.pc_rules.specs.Places.{beside, inner}
use Rattle.pc_rules.specs.Decorated.{decorate}
use Rattle.pc_rules.specs.Meanings.{Local, Outside}
use Rattle.pc_scope.specs.Headings.{is_routine_kind}
use Rattle.pc_syntax.specs.Plain.{Cons, Forest, Nil}
use Rattle.pc_syntax.specs.declared.kind.Kind.{Kind}
use Rattle.pc_types.specs.Sameness.{same}
use Rattle.pc_syntax.specs.declared.kind.Kind.TheVariants as kind

-- the declarations of a block, those that stand before a place and the others
pub record Reached (q n : List ℕ) (l : Local) (all : List Classed) : Type 0 where
  pub before : List Classed
  pub others : List Classed
  pub knows : Knows q n l before
  pub hidden : AllAre false q others
  pub whole : before ++ others ≡ all

-- a used name
pub record IsUse (s : Spot) : Type 0 where
  pub kind : s.kind ≡ kind.Name
  pub using : s.local.using ≡ true

-- ---- ways

abbrev local_or : Local → Option Spot → Local
local_or l None = l
local_or l (Some s) = s.local

abbrev kind_or : Kind → Option Spot → Kind
kind_or k None = k
kind_or k (Some s) = s.kind

-- a way leads no farther back
pub spot-least : (out : Outside) (l : Local) (i : ℕ) (f : Forest) (j : ℕ) (way : List ℕ) (s : Spot) → spot out l i f (j ∷ way) ≡ Some s → i ≤ j
unfolding spot
spot-least out l i Nil j way s e = cc e
spot-least out l i (Cons k w ns ks ts) j [] s e = by (i == j) refl e (spot-least out (beside l k (first (decorate out l (Cons k w ns ks Nil)))) (suc i) ts j [] s) where
  by : (t : Bool) → (i == j) ≡ t → (elim (if t then Arrived else Behind) as (λ x. Option Spot) [
    | Lost ↦ None
    | Arrived ↦ Some (record { local = l; kind = k; word = w })
    | Inside rest ↦ if is_routine_kind k then None else spot out (inner l k ks) 1 ks rest
    | Behind ↦ spot out (beside l k (first (decorate out l (Cons k w ns ks Nil)))) (suc i) ts (j ∷ [])
  ]) ≡ Some s → (spot out (beside l k (first (decorate out l (Cons k w ns ks Nil)))) (suc i) ts (j ∷ []) ≡ Some s → suc i ≤ j) → i ≤ j
  by true same e ih = le_of_eq (eqb-true i j same)
  by false same e ih = omega (arith, ih e)
spot-least out l i (Cons k w ns ks ts) j (m ∷ way) s e = by (i == j) refl e (spot-least out (beside l k (first (decorate out l (Cons k w ns ks Nil)))) (suc i) ts j (m ∷ way) s) where
  by : (t : Bool) → (i == j) ≡ t → (elim (if t then Inside (m ∷ way) else Behind) as (λ x. Option Spot) [
    | Lost ↦ None
    | Arrived ↦ Some (record { local = l; kind = k; word = w })
    | Inside rest ↦ if is_routine_kind k then None else spot out (inner l k ks) 1 ks rest
    | Behind ↦ spot out (beside l k (first (decorate out l (Cons k w ns ks Nil)))) (suc i) ts (j ∷ m ∷ way)
  ]) ≡ Some s → (spot out (beside l k (first (decorate out l (Cons k w ns ks Nil)))) (suc i) ts (j ∷ m ∷ way) ≡ Some s → suc i ≤ j) → i ≤ j
  by true same e ih = le_of_eq (eqb-true i j same)
  by false same e ih = omega (arith, ih e)

-- how a way leads to a node among some trees: to the first, into it, or to those behind
pub data Leads (out : Outside) (l : Local) (i : ℕ) (k : Kind) (w : List ℕ) (ns : List (List ℕ)) (ks ts : Forest) (j : ℕ) (way : List ℕ) (s : Spot) : Type 0 where
  ToIt : i ≡ j → way ≡ [] → s.local ≡ l → s.kind ≡ k → Leads out l i k w ns ks ts j way s
  IntoIt : i ≡ j → (m : ℕ) → (rest : List ℕ) → way ≡ m ∷ rest → is_routine_kind k ≡ false → spot out (inner l k ks) 1 ks (m ∷ rest) ≡ Some s → Leads out l i k w ns ks ts j way s
  BehindIt : i < j → spot out (beside l k (first (decorate out l (Cons k w ns ks Nil)))) (suc i) ts (j ∷ way) ≡ Some s → Leads out l i k w ns ks ts j way s

unrouted : {X : Type 0} (b : Bool) (x : Option X) (s : X) → (if b then None else x) ≡ Some s → (b ≡ false) × (x ≡ Some s)
unrouted true x s e = cc e
unrouted false x s e = (refl, e)

pub leads : (out : Outside) (l : Local) (i : ℕ) (k : Kind) (w : List ℕ) (ns : List (List ℕ)) (ks ts : Forest) (j : ℕ) (way : List ℕ) (s : Spot) →
    spot out l i (Cons k w ns ks ts) (j ∷ way) ≡ Some s → Leads out l i k w ns ks ts j way s
unfolding spot
leads out l i k w ns ks ts j [] s e = by (i == j) refl e where
  by : (t : Bool) → (i == j) ≡ t → (elim (if t then Arrived else Behind) as (λ x. Option Spot) [
    | Lost ↦ None
    | Arrived ↦ Some (record { local = l; kind = k; word = w })
    | Inside rest ↦ if is_routine_kind k then None else spot out (inner l k ks) 1 ks rest
    | Behind ↦ spot out (beside l k (first (decorate out l (Cons k w ns ks Nil)))) (suc i) ts (j ∷ [])
  ]) ≡ Some s → Leads out l i k w ns ks ts j [] s
  by true same e = ToIt (eqb-true i j same) refl (ap (local_or l) (sym e)) (ap (kind_or k) (sym e))
  by false same e = BehindIt (omega (arith, spot-least out (beside l k (first (decorate out l (Cons k w ns ks Nil)))) (suc i) ts j [] s e)) e
leads out l i k w ns ks ts j (m ∷ way) s e = by (i == j) refl e where
  by : (t : Bool) → (i == j) ≡ t → (elim (if t then Inside (m ∷ way) else Behind) as (λ x. Option Spot) [
    | Lost ↦ None
    | Arrived ↦ Some (record { local = l; kind = k; word = w })
    | Inside rest ↦ if is_routine_kind k then None else spot out (inner l k ks) 1 ks rest
    | Behind ↦ spot out (beside l k (first (decorate out l (Cons k w ns ks Nil)))) (suc i) ts (j ∷ m ∷ way)
  ]) ≡ Some s → Leads out l i k w ns ks ts j (m ∷ way) s
  by true same e =
      let u = unrouted (is_routine_kind k) (spot out (inner l k ks) 1 ks (m ∷ way)) s e in
      IntoIt (eqb-true i j same) m way refl u.0 u.1
  by false same e = BehindIt (omega (arith, spot-least out (beside l k (first (decorate out l (Cons k w ns ks Nil)))) (suc i) ts j (m ∷ way) s e)) e

pub spot-none : (out : Outside) (l : Local) (i : ℕ) (f : Forest) (way : List ℕ) (s : Spot) → IsNil f → spot out l i f way ≡ Some s → ⊥
unfolding spot
spot-none out l i Nil way s h e = cc e
spot-none out l i (Cons k w ns ks ts) way s h e = absurd h
