-- Which headings count, routine by routine.
use Rattle.std.proofs.Common.{◌≡◌, ℕ, suc, ◌+◌, ◌-◌, ◌<◌, inl, inr, List, [], ◌∷◌, ◌++◌, length, map, take, refl, ap, sym, ◌∙◌, arith, get_or}
use Rattle.std.proofs.Math.ListN.{get_or-append}
use Rattle.std.proofs.Math.Seq.{get_or-append_seam}
use Rattle.std.proofs.lemmas.Bool.{cases_lt}
use Rattle.std.proofs.lemmas.List.{length-map, length-take-le, take_more, get_or-map}
use Rattle.std.proofs.lemmas.Option.{slice_get_read, slice_get_within}
use Rattle.std.specs.Option.{option_map_or}
use Rattle.std.specs.Prelude.{Option, Some, None, slice_get, if◌then◌else◌}
use Rattle.pc_syntax.specs.Plain.{Plain, forest_of}
use Rattle.pc_scope.specs.Headings.{Heading, heading_of, headings_in}
use Rattle.pc_scope.specs.Waiting.{waits, waiting_for, counting}
use Rattle.pc_scope.specs.WaitingIn.{waiting_in, Counts}
use Rattle.pc_scope.specs.declared.waiting.Waiting.{Waiting}
use Rattle.pc_scope.proofs.Chains.{Some-inj}

-- what waits behind one routine more
pub waiting-more : (h : Heading) (n : ℕ) (b : Option ℕ) (gs : List Heading) (g : Heading) → waiting_for h n b (gs ++ g ∷ []) ≡ waits h g (n + length gs) (waiting_for h n b gs)
waiting-more h n b [] g = let e : n ≡ n + 0 = omega arith in ap (λ k. waits h g k b) e
waiting-more h n b (k ∷ gs) g =
    let e : suc n + length gs ≡ n + suc (length gs) = omega arith in
    waiting-more h (suc n) (waits h k n b) gs g ∙ ap (λ j. waits h g j (waiting_for h (suc n) (waits h k n b) gs)) e

headings-map : (ts : List Plain) → headings_in (forest_of ts) ≡ map (λ t. heading_of t.kind t.kids) ts
headings-map [] = refl
headings-map (t ∷ ts) = ap (λ hs. heading_of t.kind t.kids ∷ hs) (headings-map ts)

module _ (ts : List Plain) (i : ℕ) (t : Plain) (below : i < length ts) (is : t ≡ get_or ts i t) where
  headings-more : take (i + 1) (headings_in (forest_of ts)) ≡ take i (headings_in (forest_of ts)) ++ heading_of t.kind t.kids ∷ []
  headings-more =
      let h : Plain → Heading = λ u. heading_of u.kind u.kids in
      let within : i < length (map h ts) = omega (arith, below, length-map ts h) in
      ap (take (i + 1)) (headings-map ts)
      ∙ take_more (map h ts) i (h t) within
      ∙ ap (λ x. take i (map h ts) ++ x ∷ []) (get_or-map h ts i t (h t) below ∙ ap h (sym is))
      ∙ ap (λ hs. take i hs ++ h t ∷ []) (sym (headings-map ts))

  before-count : 1 + length (take i (headings_in (forest_of ts))) ≡ i + 1
  before-count =
      let h : Plain → Heading = λ u. heading_of u.kind u.kids in
      let e : length (take i (headings_in (forest_of ts))) ≡ i = length-take-le i (headings_in (forest_of ts)) (omega (arith, below, ap length (headings-map ts), length-map ts h)) in
      omega (arith, e)

  -- the table behind the routine
  pub table-more : (w w' : Waiting) → ((h : Heading) → waiting_in w h ≡ waiting_for h 1 None (take i (headings_in (forest_of ts)))) →
      ((h : Heading) → waiting_in w' h ≡ waits h (heading_of t.kind t.kids) (i + 1) (waiting_in w h)) →
      (h : Heading) → waiting_in w' h ≡ waiting_for h 1 None (take (i + 1) (headings_in (forest_of ts)))
  table-more w w' before passed h =
      passed h ∙ ap (waits h (heading_of t.kind t.kids) (i + 1)) (before h)
      ∙ ap (λ n. waits h (heading_of t.kind t.kids) n (waiting_for h 1 None (take i (headings_in (forest_of ts))))) (sym before-count)
      ∙ sym (waiting-more h 1 None (take i (headings_in (forest_of ts))) (heading_of t.kind t.kids))
      ∙ ap (waiting_for h 1 None) (sym headings-more)

  -- the number of the routine whose heading counts for it
  pub number-here : (w : Waiting) (c : ℕ) → ((h : Heading) → waiting_in w h ≡ waiting_for h 1 None (take i (headings_in (forest_of ts)))) →
      (h : Heading) → h ≡ heading_of t.kind t.kids → c ≡ (if h.is_forward then i + 1 else option_map_or (λ x. x) (waiting_in w h) (i + 1)) → c ≡ counting (forest_of ts) (i + 1) (heading_of t.kind t.kids)
  number-here w c before h same is =
      let e : i + 1 - 1 ≡ i = omega arith in
      is ∙ ap (λ o. if h.is_forward then i + 1 else option_map_or (λ x. x) o (i + 1)) (before h ∙ ap (λ n. waiting_for h 1 None (take n (headings_in (forest_of ts)))) (sym e))
      ∙ ap (counting (forest_of ts) (i + 1)) same

  -- and those of all that were passed
  pub each-more : (ns ns' : List ℕ) (c : ℕ) → length ns ≡ i → ns' ≡ ns ++ c ∷ [] → c ≡ counting (forest_of ts) (i + 1) (heading_of t.kind t.kids) →
      ((j : ℕ) (r : Plain) → j < i → slice_get ts j ≡ Some r → get_or ns j 0 ≡ counting (forest_of ts) (j + 1) (heading_of r.kind r.kids)) →
      (j : ℕ) (r : Plain) → j < i + 1 → slice_get ts j ≡ Some r → get_or ns' j 0 ≡ counting (forest_of ts) (j + 1) (heading_of r.kind r.kids)
  each-more ns ns' c count new here each j r within at =
      elim (cases_lt j i) [
        | inl l ↦ ap (λ xs. get_or xs j 0) new ∙ get_or-append ns (c ∷ []) 0 j (omega (arith, l, count)) ∙ each j r l at
        | inr g ↦
            let same : j ≡ length ns = omega (arith, within, g, count) in
            let index : i ≡ j = omega (arith, within, g) in
            let routine : t ≡ r = Some-inj _ _ (sym (slice_get_read ts (length ts) i t refl below is) ∙ ap (slice_get ts) index ∙ at) in
            ap (λ xs. get_or xs j 0) new ∙ ap (λ k. get_or (ns ++ c ∷ []) k 0) same ∙ get_or-append_seam ns c [] 0 ∙ here
            ∙ ap (λ u. counting (forest_of ts) (i + 1) (heading_of u.kind u.kids)) routine
            ∙ ap (λ k. counting (forest_of ts) (k + 1) (heading_of r.kind r.kids)) index
      ]

-- all numbers
pub counts-all : (ts : List Plain) (ns : List ℕ) (i : ℕ) → length ns ≡ i → i ≡ length ts →
    ((j : ℕ) (r : Plain) → j < i → slice_get ts j ≡ Some r → get_or ns j 0 ≡ counting (forest_of ts) (j + 1) (heading_of r.kind r.kids)) → Counts ts ns
counts-all ts ns i count all each = record { count = count ∙ all; each = λ j r at. each j r (let l : j < length ts = slice_get_within ts j r at in omega (arith, l, all)) at }
