-- What a node holds and counts, from its parts: lemmas.
use Rattle.std.specs.Prelude.{◌≡◌, ℕ, suc, ◌+◌, ◌≤◌, ◌<◌, max, List, [], ◌∷◌, slice_get, ◌-◌, false, map, sum_by, length}
use Rattle.std.proofs.Common.{refl, ap, sym, ◌∙◌, get_or, arith}
use Rattle.std.proofs.lemmas.List.Sums.{sum_by-cons, get_or-le-sum_by}
use Rattle.std.specs.Option.{option_map_or}
use Rattle.pc_syntax.specs.declared.kind.Kind.{Kind}
use Rattle.pc_syntax.specs.declared.kind.Kind.TheVariants.{Hole}
use Rattle.pc_syntax.specs.declared.sort.Sort.{Sort}
use Rattle.pc_syntax.specs.Plain.{Forest, Nil, Cons, Plain, trees_of, forest_of, node, kids_of, count}
use Rattle.pc_syntax.specs.WellFormed.{size_in, size_of, depth_in, depth_of, holes_in, holes_of, opens, last_open, second_open, size_limit-is, IsProper}
use Rattle.pc_syntax.specs.Parts.{largest, hole_count, is_open}

-- a forest and the list of its trees
pub trees_of-forest_of : (ts : List Plain) → trees_of (forest_of ts) ≡ ts
trees_of-forest_of [] = refl
trees_of-forest_of (t ∷ ts) = ap (λ us. t ∷ us) (trees_of-forest_of ts)

pub forest_of-trees_of : (ts : Forest) → forest_of (trees_of ts) ≡ ts
forest_of-trees_of Nil = refl
forest_of-trees_of (Cons k w ns ks ts) = ap (Cons k w ns ks) (forest_of-trees_of ts)

pub length-trees_of : (ts : Forest) → length (trees_of ts) ≡ count ts
length-trees_of Nil = refl
length-trees_of (Cons k w ns ks ts) = ap suc (length-trees_of ts)

pub count-forest_of : (ts : List Plain) → count (forest_of ts) ≡ length ts
count-forest_of [] = refl
count-forest_of (t ∷ ts) = ap suc (count-forest_of ts)

pub size_in-forest_of : (ts : List Plain) → size_in (forest_of ts) ≡ sum_by size_of ts
unfolding size_in
size_in-forest_of [] = refl
size_in-forest_of (t ∷ ts) = omega (arith, size_in-forest_of ts, sum_by-cons size_of t ts)

pub depth_in-forest_of : (ts : List Plain) → depth_in (forest_of ts) ≡ largest (map depth_of ts)
unfolding depth_in
depth_in-forest_of [] = refl
depth_in-forest_of (t ∷ ts) = ap (max (depth_of t)) (depth_in-forest_of ts)

pub holes_in-forest_of : (ts : List Plain) → holes_in (forest_of ts) ≡ sum_by holes_of ts
unfolding holes_in
holes_in-forest_of [] = refl
holes_in-forest_of (t ∷ ts) = omega (arith, holes_in-forest_of ts, sum_by-cons holes_of t ts)

-- no more trees than nodes
pub count-le-size_in : (ts : Forest) → count ts ≤ size_in ts
unfolding size_in
count-le-size_in Nil = omega arith
count-le-size_in (Cons k w ns ks ts) = omega (arith, count-le-size_in ts)

-- a tree by its kids
pub kids_of-is : (p : Plain) → kids_of p ≡ trees_of p.kids
unfolding kids_of
kids_of-is p = refl

pub forest_of-kids_of : (p : Plain) → forest_of (kids_of p) ≡ p.kids
unfolding kids_of
forest_of-kids_of p = forest_of-trees_of p.kids

pub length-kids_of : (p : Plain) → length (kids_of p) ≡ count p.kids
unfolding kids_of
length-kids_of p = length-trees_of p.kids

-- the numbers of a proper tree are small
pub small-size : (p : Plain) → IsProper p → size_of p ≤ 1000000
small-size p h = omega (arith, h.small, size_limit-is)

pub small-kids : (p : Plain) → IsProper p → length (kids_of p) < 1000000
small-kids p h = omega (arith, small-size p h, length-kids_of p, count-le-size_in p.kids)

-- a tree is the node of its parts
pub node-parts : (p : Plain) → node p.kind p.word p.notes (kids_of p) ≡ p
unfolding node kids_of
node-parts p = ap (λ ks. record { kind = p.kind; word = p.word; notes = p.notes; kids = ks }) (forest_of-trees_of p.kids)

module _ (k : Kind) (w : List ℕ) (ns : List (List ℕ)) (ks : List Plain) where
  pub node-is : node k w ns ks ≡ record { kind = k; word = w; notes = ns; kids = forest_of ks }
  unfolding node
  node-is = refl

  pub kind-node : (node k w ns ks).kind ≡ k
  unfolding node
  kind-node = refl

  pub word-node : (node k w ns ks).word ≡ w
  unfolding node
  word-node = refl

  pub notes-node : (node k w ns ks).notes ≡ ns
  unfolding node
  notes-node = refl

  pub kids-node : (node k w ns ks).kids ≡ forest_of ks
  unfolding node
  kids-node = refl

  pub kids_of-node : kids_of (node k w ns ks) ≡ ks
  unfolding node kids_of
  kids_of-node = trees_of-forest_of ks

  pub size_of-node : size_of (node k w ns ks) ≡ 1 + sum_by size_of ks
  unfolding node
  size_of-node = ap (λ n. 1 + n) (size_in-forest_of ks)

  pub depth_of-node : depth_of (node k w ns ks) ≡ 1 + largest (map depth_of ks)
  unfolding node
  depth_of-node = ap (λ n. 1 + n) (depth_in-forest_of ks)

  pub holes_of-node : holes_of (node k w ns ks) ≡ hole_count k + sum_by holes_of ks
  unfolding node
  holes_of-node = ap (λ n. hole_count k + n) (holes_in-forest_of ks)

  pub is_open-node : is_open (node k w ns ks) ≡ opens k (last_open (forest_of ks))
  unfolding node
  is_open-node = refl

-- two trees of the same parts are one
pub same-parts : (p q : Plain) → p.kind ≡ q.kind → p.word ≡ q.word → p.notes ≡ q.notes → kids_of p ≡ kids_of q → p ≡ q
same-parts p q a b c d =
    let e : node p.kind p.word p.notes (kids_of p) ≡ node q.kind q.word q.notes (kids_of q) = rw (d, a, b, c) in
    sym (node-parts p) ∙ e ∙ node-parts q

-- the numbers of a tree by its kids
module _ (p : Plain) where
  pub size_of-kids : size_of p ≡ 1 + sum_by size_of (kids_of p)
  size_of-kids = ap size_of (sym (node-parts p)) ∙ size_of-node p.kind p.word p.notes (kids_of p)

  pub depth_of-kids : depth_of p ≡ 1 + largest (map depth_of (kids_of p))
  depth_of-kids = ap depth_of (sym (node-parts p)) ∙ depth_of-node p.kind p.word p.notes (kids_of p)

  pub holes_of-kids : holes_of p ≡ hole_count p.kind + sum_by holes_of (kids_of p)
  holes_of-kids = ap holes_of (sym (node-parts p)) ∙ holes_of-node p.kind p.word p.notes (kids_of p)

  -- a kid is smaller
  pub size_of-kid : (i : ℕ) (k : Plain) → i < length (kids_of p) → get_or (kids_of p) i k ≡ k → size_of k + 1 ≤ size_of p
  size_of-kid i k l e =
      let s : size_of k ≤ sum_by size_of (kids_of p) = rw e at (get_or-le-sum_by size_of (kids_of p) i k l) in
      omega (arith, s, size_of-kids)

-- the last of some trees, and the second
pub last_open-forest_of : (ts : List Plain) → last_open (forest_of ts) ≡ option_map_or is_open (slice_get ts (length ts - 1)) false
last_open-forest_of [] = refl
last_open-forest_of (t ∷ []) = refl
last_open-forest_of (t ∷ u ∷ ts) =
    let e : length (t ∷ u ∷ ts) - 1 ≡ suc (length (u ∷ ts) - 1) = omega arith in
    rw e (last_open-forest_of (u ∷ ts))

pub second_open-forest_of : (ts : List Plain) → second_open (forest_of ts) ≡ option_map_or is_open (slice_get ts 1) false
second_open-forest_of [] = refl
second_open-forest_of (t ∷ []) = refl
second_open-forest_of (t ∷ u ∷ ts) = refl

-- a hole may be made
pub proper-hole : (s : Sort) → IsProper (node (Hole s) [] [] [])
unfolding node size_in depth_in
proper-hole s = record { sound = (refl, refl, refl, tt, tt); shallow = omega arith; small = omega (arith, size_limit-is) }

-- what the readers of a tree need
pub ruleset opened = (kind-node, word-node, notes-node, kids-node, kids_of-node)
