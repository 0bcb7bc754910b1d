-- The numbers of a tree with another node at a path.
use Rattle.std.proofs.Common.{◌≡◌, ℕ, zero, suc, ◌+◌, ◌-◌, ◌^◌, ◌<◌, ◌≤◌, min, Some, None, Option, List, [], ◌∷◌, map, length, refl, arith}
use Rattle.std.proofs.Math.ListN.{set}
use Rattle.pc_syntax.specs.Plain.{Plain, kids_of}
use Rattle.pc_syntax.specs.WellFormed.{size_of, depth_of}
use Rattle.pc_syntax.specs.Parts.{largest, kid_at}
use Rattle.pc_syntax.specs.Places.{at, with_kid, put}
use Rattle.pc_syntax.specs.Measured.{level_count}
use Rattle.pc_syntax.proofs.Changed.{kid_below, kid_is, depth_of-with_kid, size_of-with_kid, size_of-kid-le, at-step, put-step}

-- a number over a bound counts in the largest as the bound does
largest-capped : (ns : List ℕ) (i x m : ℕ) → min (1 + largest (set ns i (min x m))) m ≡ min (1 + largest (set ns i x)) m
largest-capped [] i x m = refl
largest-capped (n ∷ ns) zero x m = omega arith
largest-capped (n ∷ ns) (suc i) x m = omega (arith, largest-capped ns i x m)

-- none of the numbers is over the largest
pub largest-at : (ns : List ℕ) (i x : ℕ) → i < length ns → x ≤ largest (set ns i x)
largest-at [] i x l = absurd (omega arith)
largest-at (n ∷ ns) zero x l = omega arith
largest-at (n ∷ ns) (suc i) x l = omega (arith, largest-at ns i x (omega arith))

pub level_count-with_kid : (p : Plain) (i : ℕ) (q : Plain) (depth result : ℕ) → i < length (kids_of p) → depth ≡ level_count q →
    result ≡ min (largest (set (map depth_of (kids_of p)) i depth) + 1) (2 ^ 32 - 1) → result ≡ level_count (with_kid p i q)
level_count-with_kid p i q depth result l e r =
    let capped = rw (← e) at (largest-capped (map depth_of (kids_of p)) i (depth_of q) (2 ^ 32 - 1)) in
    omega (arith, r, capped, depth_of-with_kid p i q l)

-- the nodes of the old piece give way to those of the new one
module _ (q old : Plain) where
  abbrev Sizes : List ℕ → Plain → Type 0
  Sizes is p = (size_of (put is p q) + size_of old ≡ size_of p + size_of q) × (size_of old ≤ size_of p)

  sizes-step : (i : ℕ) (is : List ℕ) (p : Plain) → ((k : Plain) → at is k ≡ Some old → Sizes is k) → (o : Option Plain) → kid_at p i ≡ o → at (i ∷ is) p ≡ Some old → Sizes (i ∷ is) p
  sizes-step i is p below None none e = let no : None ≡ Some old = rw none at e in cc
  sizes-step i is p below (Some k) some e =
      let rest = below k (rw (at-step p k i is some) at e) in
      let l = kid_below p k i some in
      let is_kid = kid_is p k i some in
      let whole = size_of-with_kid p (i - 1) (put is k q) l k is_kid in
      (rw (put-step p k i is some q) (omega (arith, rest.0, whole)), omega (arith, rest.1, size_of-kid-le p (i - 1) q l k is_kid))

  pub size_of-put : (is : List ℕ) (p : Plain) → at is p ≡ Some old → Sizes is p
  size_of-put [] p e = let same : p ≡ old = cc in rw same (omega arith, omega arith)
  size_of-put (i ∷ is) p e = sizes-step i is p (λ k there. size_of-put is k there) (kid_at p i) refl e
