-- A plain tree with one kid changed.
use Rattle.std.proofs.Common.{◌≡◌, ℕ, zero, suc, ◌+◌, ◌-◌, ◌<◌, ◌≤◌, max, Bool, true, false, ◌&&◌, ◌==◌, not, Some, List, [], ◌∷◌, length, get_or, take, map, sum_by, refl, sym, ◌∙◌, arith, add-zero, zero-add}
use Rattle.std.proofs.Math.ListN.{set, length-set}
use Rattle.std.proofs.Math.Bool.{and-true}
use Rattle.std.proofs.lemmas.Bool.{and_parts, and_from, ne_eqb}
use Rattle.std.proofs.lemmas.List.{get_or-set_same, get_or-set_other, get_or-map, map-set, length-map, take_more}
use Rattle.std.proofs.lemmas.List.Sums.{sum_by-set, get_or-le-sum_by}
use Rattle.std.proofs.lemmas.List.Recursion.{max_bounds, max_push}
use Rattle.std.proofs.lemmas.Option.{slice_get_within, get_or_from_slice_get}
use Rattle.pc_syntax.specs.declared.kind.Kind.{Kind}
use Rattle.pc_syntax.specs.declared.kind.Kind.TheVariants.{Ifelse}
use Rattle.pc_syntax.specs.Plain.{Plain, forest_of, node, kids_of}
use Rattle.pc_syntax.specs.Slots.{class_from}
use Rattle.pc_syntax.specs.WellFormed.{size_of, depth_of, takes_notes, opens, last_open, second_open, breaks_else_rule, WellFormed, IsWellFormed, IsProper}
use Rattle.pc_syntax.specs.Parts.{largest, is_open, kid_at}
use Rattle.pc_syntax.specs.PartsLaws.{forest_of-kids_of, node-parts, is_open-node, size_of-node, depth_of-node, size_of-kids, depth_of-kids}
use Rattle.pc_syntax.specs.Fits.{word_fits, takes_count, takes, takes_from, kinds_of, node_fits}
use Rattle.pc_syntax.specs.SoundLaws.{fits-sound, sound-fits}
use Rattle.pc_syntax.specs.Opening.{breaks_else_rule_at}
use Rattle.pc_syntax.specs.Places.{at, with_kid, put}

-- the largest of some numbers, one of them changed
pub largest-set : (ns : List ℕ) (i x : ℕ) → largest (set ns i x) ≤ max (largest ns) x
largest-set [] i x = omega arith
largest-set (n ∷ ns) zero x = omega arith
largest-set (n ∷ ns) (suc i) x = omega (arith, largest-set ns i x)

-- where the kids may stand, one of them changed
pub takes_from-set : (k : Kind) (n : ℕ) (ks : List Plain) (i : ℕ) (q : Plain) → i < length ks → takes_from k n (kinds_of ks) ≡ true →
    takes_from k n (kinds_of (set ks i q)) ≡ takes (class_from k (n + i)) q.kind
takes_from-set k n [] i q l h = absurd (omega arith)
takes_from-set k n (p ∷ ps) zero q l h =
    let parts = and_parts (takes (class_from k n) p.kind) _ h in
    rw (parts.1, add-zero) (and-true _)
takes_from-set k n (p ∷ ps) (suc i) q l h =
    let parts = and_parts (takes (class_from k n) p.kind) _ h in
    let e : n + suc i ≡ suc n + i = omega arith in
    rw (parts.0, e) (takes_from-set k (suc n) ps i q (omega arith) parts.1)

-- a kid may stand where it does
pub takes_from-at : (k : Kind) (n : ℕ) (ks : List Plain) (i : ℕ) (q : Plain) → i < length ks → get_or ks i q ≡ q → takes_from k n (kinds_of ks) ≡ true →
    takes (class_from k (n + i)) q.kind ≡ true
takes_from-at k n [] i q l e h = absurd (omega arith)
takes_from-at k n (p ∷ ps) zero q l e h =
    let parts = and_parts (takes (class_from k n) p.kind) _ h in
    rw (add-zero, ← e) parts.0
takes_from-at k n (p ∷ ps) (suc i) q l e h =
    let parts = and_parts (takes (class_from k n) p.kind) _ h in
    let f : n + suc i ≡ suc n + i = omega arith in
    rw f (takes_from-at k (suc n) ps i q (omega arith) e parts.1)

-- well-formed kids, one of them changed
pub WellFormed-set : (ks : List Plain) (i : ℕ) (q : Plain) → WellFormed (forest_of ks) → IsWellFormed q → WellFormed (forest_of (set ks i q))
WellFormed-set [] i q h s = h
WellFormed-set (k ∷ ks) zero q h s = (s.0, s.1, s.2, s.3, h.4)
WellFormed-set (k ∷ ks) (suc i) q h s = (h.0, h.1, h.2, h.3, WellFormed-set ks i q h.4 s)

pub WellFormed-at : (ks : List Plain) (i : ℕ) (q : Plain) → i < length ks → get_or ks i q ≡ q → WellFormed (forest_of ks) → IsWellFormed q
WellFormed-at [] i q l e h = absurd (omega arith)
WellFormed-at (k ∷ ks) zero q l e h = rw (← e) (h.0, h.1, h.2, h.3, tt)
WellFormed-at (k ∷ ks) (suc i) q l e h = WellFormed-at ks i q (omega arith) e h.4

-- which kid ends open, one of them changed
second_open-set : (ks : List Plain) (i : ℕ) (q : Plain) → i < length ks → second_open (forest_of ks) ≡ false → second_open (forest_of (set ks i q)) ≡ ((i == 1) && is_open q)
second_open-set [] i q l h = absurd (omega arith)
second_open-set (t ∷ []) zero q l h = refl
second_open-set (t ∷ []) (suc i) q l h = absurd (omega arith)
second_open-set (t ∷ u ∷ ts) zero q l h = h
second_open-set (t ∷ u ∷ ts) (suc zero) q l h = refl
second_open-set (t ∷ u ∷ ts) (suc (suc i)) q l h =
    let e : (suc (suc i) == 1) ≡ false = ne_eqb _ _ (λ f. absurd (omega arith)) in
    rw e h

pub breaks_else_rule-set : (k : Kind) (ks : List Plain) (i : ℕ) (q : Plain) → i < length ks → breaks_else_rule k (forest_of ks) ≡ false →
    breaks_else_rule k (forest_of (set ks i q)) ≡ breaks_else_rule_at k i (is_open q)
breaks_else_rule-set Ifelse ks i q l h = second_open-set ks i q l h
breaks_else_rule-set _ ks i q l h = refl

pub last_open-set_last : (ks : List Plain) (i : ℕ) (q : Plain) → i + 1 ≡ length ks → last_open (forest_of (set ks i q)) ≡ is_open q
last_open-set_last [] i q e = absurd (omega arith)
last_open-set_last (t ∷ []) zero q e = refl
last_open-set_last (t ∷ []) (suc i) q e = absurd (omega arith)
last_open-set_last (t ∷ u ∷ ts) zero q e = absurd (omega arith)
last_open-set_last (t ∷ u ∷ ts) (suc zero) q e = last_open-set_last (u ∷ ts) zero q (omega arith)
last_open-set_last (t ∷ u ∷ ts) (suc (suc i)) q e = last_open-set_last (u ∷ ts) (suc i) q (omega arith)

pub last_open-set_other : (ks : List Plain) (i : ℕ) (q : Plain) → i + 1 < length ks → last_open (forest_of (set ks i q)) ≡ last_open (forest_of ks)
last_open-set_other [] i q l = absurd (omega arith)
last_open-set_other (t ∷ []) i q l = absurd (omega arith)
last_open-set_other (t ∷ u ∷ ts) zero q l = refl
last_open-set_other (t ∷ u ∷ ts) (suc zero) q l = last_open-set_other (u ∷ ts) zero q (omega arith)
last_open-set_other (t ∷ u ∷ ts) (suc (suc i)) q l = last_open-set_other (u ∷ ts) (suc i) q (omega arith)

-- a well-formed node by its parts
pub record IsSoundNode (p : Plain) : Type 0 where
  pub word : word_fits p.kind p.word ≡ true
  pub count : takes_count p.kind (length (kids_of p)) ≡ true
  pub places : takes_from p.kind 0 (kinds_of (kids_of p)) ≡ true
  pub notes : takes_notes p.kind (length (kids_of p)) p.notes ≡ true
  pub apart : breaks_else_rule p.kind (forest_of (kids_of p)) ≡ false
  pub kids : WellFormed (forest_of (kids_of p))

not-true : (b : Bool) → not b ≡ true → b ≡ false
not-true true e = cc
not-true false e = refl

pub sound-parts : (p : Plain) → IsWellFormed p → IsSoundNode p
unfolding node_fits
sound-parts p h =
    let k = p.kind in
    let ks = kids_of p in
    let whole : IsWellFormed (node k p.word p.notes ks) = rw (node-parts p) h in
    let a = and_parts (word_fits k p.word) _ (sound-fits k p.word p.notes ks whole) in
    let b = and_parts (takes_count k (length ks)) _ a.1 in
    let c = and_parts (takes_from k 0 (kinds_of ks)) _ b.1 in
    let d = and_parts (takes_notes k (length ks) p.notes) _ c.1 in
    record { word = a.0; count = b.0; places = c.0; notes = d.0; apart = not-true _ d.1; kids = rw (forest_of-kids_of p) h.3 }

kids-sound : (k : Kind) (w : List ℕ) (ns : List (List ℕ)) (ks : List Plain) → IsWellFormed (node k w ns ks) → WellFormed (forest_of ks)
unfolding node
kids-sound k w ns ks h = h.3

-- the tree with another kid at i
module _ (p : Plain) (i : ℕ) (q : Plain) (l : i < length (kids_of p)) where
  pub sound-with_kid : IsWellFormed p → takes (class_from p.kind i) q.kind ≡ true → breaks_else_rule_at p.kind i (is_open q) ≡ false → IsWellFormed q → IsWellFormed (with_kid p i q)
  unfolding node_fits
  sound-with_kid h stands apart sound =
      let s = sound-parts p h in
      let ks : List Plain = set (kids_of p) i q in
      let count : takes_count p.kind (length ks) ≡ true = rw length-set s.count in
      let places : takes_from p.kind 0 (kinds_of ks) ≡ true = takes_from-set p.kind 0 (kids_of p) i q l s.places ∙ rw zero-add stands in
      let notes : takes_notes p.kind (length ks) p.notes ≡ true = rw length-set s.notes in
      let opens : not (breaks_else_rule p.kind (forest_of ks)) ≡ true = rw (breaks_else_rule-set p.kind (kids_of p) i q l s.apart, apart) refl in
      fits-sound p.kind p.word p.notes ks (and_from _ _ s.word (and_from _ _ count (and_from _ _ places (and_from _ _ notes opens)))) (WellFormed-set (kids_of p) i q s.kids sound)

  pub parts-with_kid : IsWellFormed p → IsWellFormed (with_kid p i q) → (takes (class_from p.kind i) q.kind ≡ true) × (breaks_else_rule_at p.kind i (is_open q) ≡ false) × IsWellFormed q
  unfolding node_fits
  parts-with_kid h whole =
      let s = sound-parts p h in
      let k = p.kind in
      let ks : List Plain = set (kids_of p) i q in
      let within : i < length ks = rw length-set l in
      let a = and_parts (word_fits k p.word) _ (sound-fits k p.word p.notes ks whole) in
      let b = and_parts (takes_count k (length ks)) _ a.1 in
      let c = and_parts (takes_from k 0 (kinds_of ks)) _ b.1 in
      let d = and_parts (takes_notes k (length ks) p.notes) _ c.1 in
      let places = sym (takes_from-set k 0 (kids_of p) i q l s.places) ∙ c.0 in (
        rw zero-add at places,
        sym (breaks_else_rule-set k (kids_of p) i q l s.apart) ∙ not-true _ d.1,
        WellFormed-at ks i q within (get_or-set_same (kids_of p) i q q l) (kids-sound k p.word p.notes ks whole),
      )

  pub is_open-with_kid : is_open (with_kid p i q) ≡ opens p.kind (last_open (forest_of (set (kids_of p) i q)))
  is_open-with_kid = is_open-node p.kind p.word p.notes (set (kids_of p) i q)

  pub depth_of-with_kid : depth_of (with_kid p i q) ≡ 1 + largest (set (map depth_of (kids_of p)) i (depth_of q))
  depth_of-with_kid = depth_of-node p.kind p.word p.notes (set (kids_of p) i q) ∙ rw map-set refl

  pub size_of-with_kid : (k : Plain) → get_or (kids_of p) i k ≡ k → size_of (with_kid p i q) + size_of k ≡ size_of p + size_of q
  size_of-with_kid k e =
      let s = sum_by-set size_of (kids_of p) i q k l in
      let t : sum_by size_of (set (kids_of p) i q) + size_of k ≡ sum_by size_of (kids_of p) + size_of q = rw e at s in
      omega (arith, t, size_of-kids p, size_of-node p.kind p.word p.notes (set (kids_of p) i q))

  pub size_of-kid-le : (k : Plain) → get_or (kids_of p) i k ≡ k → size_of k + 1 ≤ size_of p
  size_of-kid-le k e =
      let s : size_of k ≤ sum_by size_of (kids_of p) = rw e at (get_or-le-sum_by size_of (kids_of p) i k l) in
      omega (arith, s, size_of-kids p)

  pub depth_of-kid-le : (k : Plain) → get_or (kids_of p) i k ≡ k → depth_of k + 1 ≤ depth_of p
  depth_of-kid-le k e =
      let s : depth_of k ≤ largest (map depth_of (kids_of p)) = rw e at (max_bounds (λ xs. largest (map depth_of xs)) depth_of refl (λ x xs. refl) (kids_of p) i k l) in
      omega (arith, s, depth_of-kids p)

  -- a kid of a proper tree is proper
  pub proper-with_kid : IsProper (with_kid p i q) → IsProper q
  proper-with_kid h =
      let ks : List Plain = set (kids_of p) i q in
      let within : i < length ks = rw length-set l in
      let e : get_or ks i q ≡ q = get_or-set_same (kids_of p) i q q l in
      let deep : depth_of q ≤ largest (map depth_of ks) = rw e at (max_bounds (λ xs. largest (map depth_of xs)) depth_of refl (λ x xs. refl) ks i q within) in
      let small : size_of q ≤ sum_by size_of ks = rw e at (get_or-le-sum_by size_of ks i q within) in
      record {
        sound = WellFormed-at ks i q within e (kids-sound p.kind p.word p.notes ks h.sound);
        shallow = omega (arith, h.shallow, deep, depth_of-node p.kind p.word p.notes ks);
        small = omega (arith, h.small, small, size_of-node p.kind p.word p.notes ks);
      }

-- a kid by its number
module _ (p k : Plain) where
  pub kid_below : (n : ℕ) → kid_at p n ≡ Some k → n - 1 < length (kids_of p)
  kid_below zero e = cc
  kid_below (suc i) e = let f : suc i - 1 ≡ i = omega arith in rw f (slice_get_within (kids_of p) i k e)

  pub kid_is : (n : ℕ) → kid_at p n ≡ Some k → get_or (kids_of p) (n - 1) k ≡ k
  kid_is zero e = cc
  kid_is (suc i) e = let f : suc i - 1 ≡ i = omega arith in rw f (get_or_from_slice_get (kids_of p) i k k e)

-- a kid of a well-formed tree is well formed and may stand where it does
module _ (p k : Plain) (i : ℕ) (l : i < length (kids_of p)) (e : get_or (kids_of p) i k ≡ k) (h : IsWellFormed p) where
  pub sound-kid : IsWellFormed k
  sound-kid = WellFormed-at (kids_of p) i k l e (sound-parts p h).kids

  pub stands-kid : takes (class_from p.kind i) k.kind ≡ true
  stands-kid = rw zero-add at (takes_from-at p.kind 0 (kids_of p) i k l e (sound-parts p h).places)

-- one step of a path
module _ (p k : Plain) (i : ℕ) (is : List ℕ) (e : kid_at p i ≡ Some k) where
  pub at-step : at (i ∷ is) p ≡ at is k
  at-step = rw e

  pub put-step : (q : Plain) → put (i ∷ is) p q ≡ with_kid p (i - 1) (put is k q)
  put-step q = rw e

  pub proper-step : (q : Plain) → IsProper (put (i ∷ is) p q) → IsProper (put is k q)
  proper-step q h = proper-with_kid p (i - 1) (put is k q) (kid_below p k i e) (rw (put-step q) at h)

-- the loop of `deepest_with`
module _ (ts : List Plain) (i depth j : ℕ) (l : j < length ts) where
  abbrev with_depth : List ℕ
  with_depth = set (map depth_of ts) i depth

  pub with_depth-here : j ≡ i → depth ≡ get_or with_depth j 0
  with_depth-here e =
      let within : i < length (map depth_of ts) = rw length-map (omega arith) in
      rw (e, get_or-set_same (map depth_of ts) i depth 0 within)

  pub with_depth-other : (j ≡ i → ⊥) → (x : Plain) → x ≡ get_or ts j x → depth_of x ≡ get_or with_depth j 0
  with_depth-other n x e = rw (get_or-set_other (map depth_of ts) i j depth 0 n, get_or-map depth_of ts j x 0 l, ← e)

  pub deepest_more : (m n : ℕ) → m ≡ largest (take j with_depth) → n ≡ get_or with_depth j 0 → max m n ≡ largest (take (j + 1) with_depth)
  deepest_more m n e f =
      let within : j < length with_depth = rw (length-set, length-map) l in
      rw (take_more with_depth j 0 within, max_push largest (λ x. x) refl (λ x xs. refl) (take j with_depth) (get_or with_depth j 0), e, f)
