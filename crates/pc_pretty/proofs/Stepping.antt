-- Going down a path step by step, and counting the nodes that stand before.
use Rattle.std.proofs.Common.{◌≡◌, ℕ, ◌+◌, ◌-◌, ◌<◌, ◌≤◌, zero, suc, List, [], ◌∷◌, ◌++◌, take, drop, length, get_or, Option, Some, None, refl, ap, sym, ◌∙◌, sum_by, arith}
use Rattle.std.specs.Prelude.{option_map, option_and_then}
use Rattle.std.specs.Option.{option_map_or}
use Rattle.std.proofs.Math.Seq.{take-suc}
use Rattle.std.proofs.lemmas.List.{drop_more}
use Rattle.std.proofs.lemmas.List.Sums.{sum_by_push, sum_by-take-drop, sum_by-cons}
use Rattle.std.proofs.lemmas.Option.{same_Some, slice_get_within, get_or_from_slice_get}
use Rattle.pc_syntax.specs.Plain.{Plain, kids_of}
use Rattle.pc_syntax.specs.Parts.{kid_at}
use Rattle.pc_syntax.specs.PartsLaws.{size_of-kids}
use Rattle.pc_syntax.specs.Places.{at}
use Rattle.pc_syntax.specs.WellFormed.{size_of}
use Rattle.pc_pretty.specs.Preorder.{nodes_before}

-- the sum over one element more
pub sum-more : (ts : List Plain) (i : ℕ) (t : Plain) → i < length ts → t ≡ get_or ts i t → sum_by size_of (take (i + 1) ts) ≡ sum_by size_of (take i ts) + size_of t
sum-more ts i t l e =
    let one : i + 1 ≡ suc i = omega arith in
    let cut : take (suc i) ts ≡ take i ts ++ (get_or ts i t ∷ []) = take-suc ts i t l in
    ap (λ n. sum_by size_of (take n ts)) one ∙ ap (sum_by size_of) cut ∙ sum_by_push size_of (take i ts) (get_or ts i t) ∙ ap (λ u. sum_by size_of (take i ts) + size_of u) (sym e)

-- the kids up to one of them, and it, have no more nodes than all
pub sum-room : (ts : List Plain) (i : ℕ) (t : Plain) → i < length ts → t ≡ get_or ts i t → sum_by size_of (take i ts) + size_of t ≤ sum_by size_of ts
sum-room ts i t l e =
    let split : sum_by size_of (drop i ts) ≡ size_of t + sum_by size_of (drop (i + 1) ts) =
    ap (sum_by size_of) (drop_more ts i t l) ∙ sum_by-cons size_of (get_or ts i t) (drop (i + 1) ts) ∙ ap (λ u. size_of u + sum_by size_of (drop (i + 1) ts)) (sym e) in
    omega (arith, split, sum_by-take-drop size_of ts i)

pub record KidRoom (t k : Plain) (i : ℕ) : Type 0 where
  pub positive : 1 ≤ i
  pub within : i - 1 < length (kids_of t)
  pub room : 1 + sum_by size_of (take (i - 1) (kids_of t)) + size_of k ≤ size_of t

pub kid_room : (t k : Plain) (i : ℕ) → kid_at t i ≡ Some k → KidRoom t k i
kid_room t k zero e = cc
kid_room t k (suc j) e =
    let less : suc j - 1 ≡ j = omega arith in
    let l : j < length (kids_of t) = slice_get_within (kids_of t) j k e in
    let r : sum_by size_of (take j (kids_of t)) + size_of k ≤ sum_by size_of (kids_of t) = sum-room (kids_of t) j k l (sym (get_or_from_slice_get (kids_of t) j k k e)) in
    let s : sum_by size_of (take (suc j - 1) (kids_of t)) ≡ sum_by size_of (take j (kids_of t)) = ap (λ n. sum_by size_of (take n (kids_of t))) less in
    record { positive = omega arith; within = omega (arith, l); room = omega (arith, r, s, size_of-kids t) }

-- the way is gone as far as a node, and so many nodes stand before it
pub record Stepped (path : List ℕ) (t node : Plain) (rest : List ℕ) (count : ℕ) : Type 0 where
  pub there : at path t ≡ at rest node
  pub before : nodes_before path t ≡ count + nodes_before rest node
  pub small : count + size_of node ≤ size_of t

pub stepped_none : (path rest : List ℕ) (t : Plain) → rest ≡ path → Stepped path t t rest 0
stepped_none path rest t e = rw e record { there = refl; before = omega arith; small = omega arith }

pub stepped : (path : List ℕ) (t node k : Plain) (i : ℕ) (rest : List ℕ) (count : ℕ) → Stepped path t node (i ∷ rest) count → kid_at node i ≡ Some k →
    Stepped path t k rest (count + (1 + sum_by size_of (take (i - 1) (kids_of node))))
stepped path t node k i rest count h e =
    let down : at (i ∷ rest) node ≡ at rest k = ap (option_and_then (at rest)) e in
    let more : nodes_before (i ∷ rest) node ≡ 1 + sum_by size_of (take (i - 1) (kids_of node)) + nodes_before rest k =
    ap (λ o. 1 + sum_by size_of (take (i - 1) (kids_of node)) + option_map_or (nodes_before rest) o 0) e in
    record { there = h.there ∙ down; before = omega (arith, h.before, more); small = omega (arith, h.small, (kid_room node k i e).room) }

-- the way leads nowhere
pub stepped_nowhere : (path : List ℕ) (t node : Plain) (i : ℕ) (rest : List ℕ) (count : ℕ) → Stepped path t node (i ∷ rest) count → kid_at node i ≡ None →
    None ≡ option_map (λ _. nodes_before path t) (at path t)
stepped_nowhere path t node i rest count h e = sym (ap (option_map (λ _. nodes_before path t)) (h.there ∙ ap (option_and_then (at rest)) e))

-- it is gone to the end
pub stepped_all : (path : List ℕ) (t node : Plain) (rest : List ℕ) (count : ℕ) → rest ≡ [] → Stepped path t node rest count →
    Some count ≡ option_map (λ _. nodes_before path t) (at path t)
stepped_all path t node rest count e h =
    let g : Stepped path t node [] count = rw e at h in
    let n : count ≡ nodes_before path t = omega (arith, g.before) in
    ap Some n ∙ sym (ap (option_map (λ _. nodes_before path t)) g.there)

-- a node and those below it are among those behind the ones before it
pub nodes-room : (path : List ℕ) (t u : Plain) → at path t ≡ Some u → nodes_before path t + size_of u ≤ size_of t
nodes-room [] t u e = omega (arith, ap size_of (same_Some t u e))
nodes-room (i ∷ is) t u e = go (kid_at t i) refl e (λ k g. nodes-room is k u g)
  where
    go : (o : Option Plain) → kid_at t i ≡ o → option_and_then (at is) o ≡ Some u → ((k : Plain) → at is k ≡ Some u → nodes_before is k + size_of u ≤ size_of k) →
        1 + sum_by size_of (take (i - 1) (kids_of t)) + option_map_or (nodes_before is) o 0 + size_of u ≤ size_of t
    go None f g more = cc
    go (Some k) f g more = omega (arith, more k g, (kid_room t k i f).room)

-- the nodes before a kid of a node at a path
pub nodes_before-append : (path rest : List ℕ) (t u : Plain) → at path t ≡ Some u → nodes_before (path ++ rest) t ≡ nodes_before path t + nodes_before rest u
nodes_before-append [] rest t u e = ap (nodes_before rest) (same_Some t u e) ∙ omega arith
nodes_before-append (i ∷ is) rest t u e = go (kid_at t i) e (λ k g. nodes_before-append is rest k u g)
  where
    go : (o : Option Plain) → option_and_then (at is) o ≡ Some u → ((k : Plain) → at is k ≡ Some u → nodes_before (is ++ rest) k ≡ nodes_before is k + nodes_before rest u) →
        1 + sum_by size_of (take (i - 1) (kids_of t)) + option_map_or (nodes_before (is ++ rest)) o 0 ≡ 1 + sum_by size_of (take (i - 1) (kids_of t)) + option_map_or (nodes_before is) o 0 + nodes_before rest u
    go None g more = cc
    go (Some k) g more = omega (arith, more k g)

pub at-append : (path rest : List ℕ) (t : Plain) → at (path ++ rest) t ≡ option_and_then (at rest) (at path t)
at-append [] rest t = refl
at-append (i ∷ is) rest t = go (kid_at t i) (λ k. at-append is rest k)
  where
    go : (o : Option Plain) → ((k : Plain) → at (is ++ rest) k ≡ option_and_then (at rest) (at is k)) → option_and_then (at (is ++ rest)) o ≡ option_and_then (at rest) (option_and_then (at is) o)
    go None more = refl
    go (Some k) more = more k
