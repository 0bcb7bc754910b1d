-- Regions with one more, and the routines of a block, one by one.
use Rattle.std.proofs.Common.{◌≡◌, ℕ, zero, suc, ◌+◌, ◌<◌, ◌≤◌, inl, inr, Bool, true, false, List, [], ◌∷◌, ◌++◌, length, refl, ap, sym, ◌∙◌, subst, arith}
use Rattle.std.proofs.lemmas.Bool.{cases_lt}
use Rattle.std.proofs.lemmas.Option.{slice_get_past}
use Rattle.std.specs.Prelude.{Option, Some, None, slice_get, slice_index, if◌then◌else◌}
use Rattle.std.specs.Option.{option_and_then}
use Rattle.pc_syntax.specs.Plain.{Plain, trees_of, forest_of}
use Rattle.pc_syntax.specs.PartsLaws.{trees_of-forest_of, forest_of-trees_of}
use Rattle.pc_syntax.specs.WellFormed.{size_in, size_of}
use Rattle.pc_scope.specs.Around.{Block, inner_block, block_of}
use Rattle.pc_scope.specs.Blocks.{routines_among, tree_at}
use Rattle.pc_scope.specs.Headings.{heading_of, is_routine_kind}
use Rattle.pc_scope.specs.Sites.{Opens}
use Rattle.pc_scope.specs.Stands.{inner_of, inner_at, Both, Stands, StandsForBlock, KeepsBlocks}
use Rattle.pc_scope.specs.Waiting.{counting}
use Rattle.pc_scope.specs.declared.region.Region.{Region}
use Rattle.pc_scope.specs.declared.site.Opened.{Opened}
use Rattle.pc_scope.proofs.Chains.{Some-inj}
use Rattle.pc_scope.proofs.SecondKid.{tree-by}
use Rattle.pc_scope.proofs.Regions.{IsOf}

module _ {X : Type 0} where
  get-more : (xs ys : List X) (i : ℕ) (x : X) → slice_get xs i ≡ Some x → slice_get (xs ++ ys) i ≡ Some x
  get-more [] ys i x e = cc
  get-more (z ∷ xs) ys zero x e = e
  get-more (z ∷ xs) ys (suc i) x e = get-more xs ys i x e

  get-before : (xs ys : List X) (i : ℕ) → i < length xs → slice_get (xs ++ ys) i ≡ slice_get xs i
  get-before [] ys i l = absurd (omega (arith, l))
  get-before (z ∷ xs) ys zero l = refl
  get-before (z ∷ xs) ys (suc i) l = get-before xs ys i (omega (arith, l))

  get-last : (xs : List X) (x : X) → slice_get (xs ++ x ∷ []) (length xs) ≡ Some x
  get-last [] x = refl
  get-last (z ∷ xs) x = get-last xs x

both-map : (P Q : ℕ → Block → Type 0) → ((r : ℕ) (b : Block) → P r b → Q r b) → (o : Option ℕ) (c : Option Block) → Both P o c → Both Q o c
both-map P Q f None None h = tt
both-map P Q f (Some r) (Some b) h = f r b h
both-map P Q f None (Some b) h = absurd h
both-map P Q f (Some r) None h = absurd h

stands-more : (rs more : List Region) (levels r : ℕ) (b : Block) → Stands levels rs r b → Stands levels (rs ++ more) r b
unfolding Stands
stands-more rs more zero r b h = tt
stands-more rs more (suc levels) r b h =
    (h.0, get-more rs more r h.0 h.1, h.2, h.3, λ n. both-map (Stands levels rs) (Stands levels (rs ++ more)) (stands-more rs more levels) (inner_of h.0 n) (inner_block b n) (h.4 n))

-- what regions stand for, they still stand for with one more
pub kept-push : (rs rs' : List Region) (g : Region) → rs' ≡ rs ++ g ∷ [] → KeepsBlocks rs rs'
kept-push rs rs' g e r b stands = subst (λ xs. StandsForBlock xs r b) (sym e) (λ levels. stands-more rs (g ∷ []) levels r b (stands levels))

-- and the new one stands for a block
module _ (rs : List Region) (g : Region) (b : Block) (is : IsOf rs g b) where
  new-stands : (levels : ℕ) → Stands levels (rs ++ g ∷ []) (length rs) b
  unfolding Stands
  new-stands zero = tt
  new-stands (suc levels) =
      (g, get-last rs g, is.names, is.number, λ n. both-map (StandsForBlock rs) (Stands levels (rs ++ g ∷ [])) (λ r c s. stands-more rs (g ∷ []) levels r c (s levels)) (inner_of g n) (inner_block b n) (is.inner n))

  pub stands-push : (rs' : List Region) (r : ℕ) → rs' ≡ rs ++ g ∷ [] → r ≡ length rs → StandsForBlock rs' r b
  stands-push rs' r e at = subst (λ xs. StandsForBlock xs r b) (sym e) (subst (λ k. StandsForBlock (rs ++ g ∷ []) k b) (sym at) new-stands)

if-some : (b : Bool) (x : Block) → b ≡ true → (if b then Some x else None) ≡ Some x
if-some true x e = refl
if-some false x e = cc

if-none : (b : Bool) (x : Block) → b ≡ false → (if b then Some x else None) ≡ None
if-none true x e = cc
if-none false x e = refl

-- the routine with an index in a block
module _ (b : Block) (ts : List Plain) (are : routines_among b.kids ≡ forest_of ts) (i : ℕ) where
  by-tree : (o : Option Plain) → slice_get ts i ≡ o →
      inner_block b (suc i) ≡ option_and_then (λ r. if is_routine_kind r.kind then Some (block_of b (suc i) r (counting (routines_among b.kids) (suc i) (heading_of r.kind r.kids))) else None) o
  by-tree o at =
      ap (λ x. option_and_then (λ r. if is_routine_kind r.kind then Some (block_of b (suc i) r (counting (routines_among b.kids) (suc i) (heading_of r.kind r.kids))) else None) x)
      (ap (tree_at (suc i)) are ∙ tree-by ts (suc i) i o (omega arith) at)

  pub past-block : length ts ≤ i → inner_block b (suc i) ≡ None
  past-block past = by-tree None (slice_get_past ts i past)

  module _ (r : Plain) (at : slice_get ts i ≡ Some r) where
    pub other-block : is_routine_kind r.kind ≡ false → inner_block b (suc i) ≡ None
    other-block e = by-tree (Some r) at ∙ if-none (is_routine_kind r.kind) _ e

    pub routine-block : (o : Opened) → Opens o b → is_routine_kind r.kind ≡ true → (x : Block) → x ≡ block_of b (i + 1) r (slice_index o.numbers.items i) → inner_block b (suc i) ≡ Some x
    routine-block o opens e x is =
        let there : slice_get (trees_of (routines_among b.kids)) i ≡ Some r = ap (λ f. slice_get (trees_of f) i) are ∙ ap (λ us. slice_get us i) (trees_of-forest_of ts) ∙ at in
        let number : slice_index o.numbers.items i ≡ counting (routines_among b.kids) (i + 1) (heading_of r.kind r.kids) =
        opens.numbers.each i r there ∙ ap (λ f. counting f (i + 1) (heading_of r.kind r.kids)) (forest_of-trees_of (routines_among b.kids)) in
        let one : i + 1 ≡ suc i = omega arith in
        by-tree (Some r) at ∙ if-some (is_routine_kind r.kind) _ e
        ∙ ap Some (sym (is ∙ ap (block_of b (i + 1) r) number ∙ ap (λ k. block_of b k r (counting (routines_among b.kids) k (heading_of r.kind r.kids))) one))

-- the regions of the routines that were gone through, and one more
pub inner-more : (rs rs' : List Region) (b : Block) (inner inner' : List (Option ℕ)) (i : ℕ) (o : Option ℕ) → length inner ≡ i → inner' ≡ inner ++ o ∷ [] → KeepsBlocks rs rs' →
    Both (StandsForBlock rs') o (inner_block b (suc i)) → ((j : ℕ) → j < i → Both (StandsForBlock rs) (inner_at inner j) (inner_block b (suc j))) →
    (j : ℕ) → j < i + 1 → Both (StandsForBlock rs') (inner_at inner' j) (inner_block b (suc j))
inner-more rs rs' b inner inner' i o count new keeps here before j within =
    let P : Option (Option ℕ) → Type 0 = λ x. Both (StandsForBlock rs') (option_and_then (λ y. y) x) (inner_block b (suc j)) in
    let are : slice_get inner' j ≡ slice_get (inner ++ o ∷ []) j = ap (λ xs. slice_get xs j) new in
    elim (cases_lt j i) [
      | inl l ↦
          subst P (sym (are ∙ get-before inner (o ∷ []) j (omega (arith, l, count))))
          (both-map (StandsForBlock rs) (StandsForBlock rs') keeps (inner_at inner j) (inner_block b (suc j)) (before j l))
      | inr g ↦
          let last : j ≡ length inner = omega (arith, within, g, count) in
          let index : i ≡ j = omega (arith, within, g) in
          let Q : ℕ → Type 0 = λ k. Both (StandsForBlock rs') o (inner_block b (suc k)) in
          subst P (sym (are ∙ ap (slice_get (inner ++ o ∷ [])) last ∙ get-last inner o)) (subst Q index here)
    ]

-- and all of them
module _ (rs : List Region) (b : Block) (ts : List Plain) (are : routines_among b.kids ≡ forest_of ts) (g : Region) (all : length g.inner.items ≡ length ts)
    (each : (j : ℕ) → j < length ts → Both (StandsForBlock rs) (inner_at g.inner.items j) (inner_block b (suc j))) where
  pub inner-all : (n : ℕ) → Both (StandsForBlock rs) (inner_of g n) (inner_block b n)
  inner-all zero = tt
  inner-all (suc j) =
      elim (cases_lt j (length ts)) [
        | inl l ↦ each j l
        | inr past ↦
            let P : Option Block → Type 0 = λ c. Both (StandsForBlock rs) (inner_of g (suc j)) c in
            let Q : Option (Option ℕ) → Type 0 = λ x. Both (StandsForBlock rs) (option_and_then (λ y. y) x) None in
            subst P (sym (past-block b ts are j past)) (subst Q (sym (slice_get_past g.inner.items j (omega (arith, past, all)))) tt)
      ]

-- a tree among others is no larger than all
pub among-smaller : (ts : List Plain) (i : ℕ) (r : Plain) → slice_get ts i ≡ Some r → size_of r ≤ size_in (forest_of ts)
unfolding size_in
among-smaller [] i r e = cc
among-smaller (t ∷ ts) zero r e = let s : size_in t.kids ≡ size_in r.kids = ap (λ (x : Plain). size_in x.kids) (Some-inj t r e) in omega arith
among-smaller (t ∷ ts) (suc i) r e = let l = among-smaller ts i r e in omega (arith, l)
