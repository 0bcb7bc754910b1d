-- What the loop of `counts_of` keeps.
use Rattle.std.proofs.Common.{◌≡◌, ℕ, ◌+◌, ◌-◌, ◌^◌, ◌<◌, ◌≤◌, min, max, List, [], ◌∷◌, ◌++◌, map, take, length, get_or, sum_by, refl, arith}
use Rattle.std.proofs.lemmas.List.{take_more}
use Rattle.std.proofs.lemmas.List.Sums.{sum_by_push}
use Rattle.std.proofs.lemmas.List.Recursion.{max_push}
use Rattle.pc_syntax.specs.Plain.{Plain, forest_of, node}
use Rattle.pc_syntax.specs.WellFormed.{size_of, depth_of, holes_of, WellFormed, IsProper}
use Rattle.pc_syntax.specs.declared.kind.Kind.{Kind}
use Rattle.pc_syntax.specs.SoundLaws.{WellFormed-push}
use Rattle.pc_syntax.specs.Parts.{largest, hole_count}
use Rattle.pc_syntax.specs.PartsLaws.{small-size, size_of-node, depth_of-node, holes_of-node}

pub record CountedSoFar (own : ℕ) (ks : List Plain) (size depth holes : ℕ) : Type 0 where
  pub size_is : size ≡ min (1 + sum_by size_of ks) (2 ^ 64 - 1)
  pub depth_is : depth ≡ largest (map depth_of ks)
  pub shallow : depth ≤ 256
  pub holes_is : holes ≡ min (own + sum_by holes_of ks) (2 ^ 64 - 1)
  pub fewer : own + sum_by holes_of ks ≤ 1 + sum_by size_of ks
  pub sound : WellFormed (forest_of ks)

module _ (own : ℕ) (ks : List Plain) (size depth holes : ℕ) (so_far : CountedSoFar own ks size depth holes) (kid : Plain) (proper : IsProper kid) (fewer : holes_of kid ≤ size_of kid) where
  counted_push : CountedSoFar own (ks ++ kid ∷ []) (min (size + size_of kid) (2 ^ 64 - 1)) (max depth (depth_of kid)) (min (holes + holes_of kid) (2 ^ 64 - 1))
  counted_push = record {
    size_is = omega (arith, sum_by_push size_of ks kid, so_far.size_is);
    depth_is = rw (max_push (λ xs. largest (map depth_of xs)) depth_of refl (λ x xs. refl) ks kid, so_far.depth_is);
    shallow = omega (arith, proper.shallow);
    holes_is = omega (arith, sum_by_push holes_of ks kid, so_far.holes_is);
    fewer = omega (arith, sum_by_push holes_of ks kid, sum_by_push size_of ks kid, so_far.fewer);
    sound = WellFormed-push ks kid so_far.sound proper.sound;
  }

pub counted_more : (own : ℕ) (ks : List Plain) (i size depth holes : ℕ) → CountedSoFar own (take i ks) size depth holes → (kid : Plain) → i < length ks → kid ≡ get_or ks i kid → IsProper kid → holes_of kid ≤ size_of kid
    → CountedSoFar own (take (i + 1) ks) (min (size + size_of kid) (2 ^ 64 - 1)) (max depth (depth_of kid)) (min (holes + holes_of kid) (2 ^ 64 - 1))
counted_more own ks i size depth holes h kid l e s f =
    rw (take_more ks i kid l, ← e) (counted_push own (take i ks) size depth holes h kid s f)

-- the counts of a proper node
pub record IsKept (p : Plain) (size depth holes : ℕ) : Type 0 where
  pub size_is : size ≡ size_of p
  pub depth_is : depth ≡ depth_of p
  pub holes_is : holes ≡ holes_of p
  pub fewer : holes ≤ size

module _ (k : Kind) (w : List ℕ) (ns : List (List ℕ)) (ks : List Plain) (proper : IsProper (node k w ns ks)) (size depth holes : ℕ) where
  pub kept : size ≡ min (1 + sum_by size_of ks) (2 ^ 64 - 1) → depth ≡ 1 + largest (map depth_of ks) → holes ≡ min (hole_count k + sum_by holes_of ks) (2 ^ 64 - 1) → hole_count k + sum_by holes_of ks ≤ 1 + sum_by size_of ks → IsKept (node k w ns ks) size depth holes
  kept s d h f =
      let small = small-size (node k w ns ks) proper in
      let size_is = size_of-node k w ns ks in
      let holes_is = holes_of-node k w ns ks in
      record {
        size_is = omega arith;
        depth_is = rw (depth_of-node, d);
        holes_is = omega arith;
        fewer = omega arith;
      }

-- the counts of a node, where its numbers may be too large
module _ (k : Kind) (w : List ℕ) (ns : List (List ℕ)) (ks : List Plain) where
  pub depth_of-counted : (depth : ℕ) → depth ≡ 1 + largest (map depth_of ks) → depth ≡ depth_of (node k w ns ks)
  depth_of-counted depth e = rw (depth_of-node, e)

  pub size_of-counted : (size : ℕ) → size ≡ min (1 + sum_by size_of ks) (2 ^ 64 - 1) → size ≡ min (size_of (node k w ns ks)) (2 ^ 64 - 1)
  size_of-counted size e = rw (size_of-node, e)
