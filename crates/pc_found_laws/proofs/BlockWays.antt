-- Which part of a block, and which kid of a routine, the path to an expression leads through.
use Rattle.std.specs.Prelude.{ℕ, zero, suc, ◌≡◌, ◌⊎◌, Bool, true, false, ◌||◌, List, [], ◌∷◌, Option, Some, None, slice_get}
use Rattle.std.specs.Option.{option_and_then}
use Rattle.std.proofs.Common.{refl, ap, sym, subst, ◌∙◌, true≢false, inl, inr}
use Rattle.pc_syntax.specs.declared.kind.Kind.{Kind}
use Rattle.pc_syntax.specs.declared.kind.Kind.TheVariants as kind
use Rattle.pc_syntax.specs.Places.{at}
use Rattle.pc_syntax.specs.Plain.{Forest, Nil, Cons, Plain, trees_of, kids_of}
use Rattle.pc_syntax.specs.WellFormed.{WellFormed, IsWellFormed}
use Rattle.pc_scope.specs.Blocks.{kid_count}
use Rattle.pc_decl.specs.Nodes.{is_expression}
use Rattle.pc_needs.proofs.BodyKinds.{Passes}
use Rattle.pc_needs.proofs.BodyParts.{BlockLast}
use Rattle.pc_needs.proofs.BodyRows.{by-block, block-next}
use Rattle.pc_needs.proofs.HeadingKinds.{is_the_block}
use Rattle.pc_program_laws.proofs.BlockLemmas.{BlockParts}
use Rattle.pc_found_laws.proofs.NodeLemmas.{tree_of}
use Rattle.pc_found_laws.proofs.OuterKinds.{is_outer}
use Rattle.pc_found_laws.proofs.OuterRows.{is_headed}
use Rattle.pc_found_laws.proofs.OuterWays.{tree-outer, outer-way}
use Rattle.pc_found_laws.proofs.PartLemmas.{AreOfBlock}

-- a path below a tree: its first kid, and on
pub kid-way : (i : ℕ) (js : List ℕ) (y x : Plain) → at (i ∷ js) y ≡ Some x → (n : ℕ) × (i ≡ suc n) × (option_and_then (at js) (slice_get (trees_of y.kids) n) ≡ Some x)
unfolding kids_of
kid-way zero js y x e = cc
kid-way (suc n) js y x e = (n, refl, e)

-- a tree among others
pub tree-there : (js : List ℕ) (f : Forest) (i : ℕ) (x : Plain) → option_and_then (at js) (slice_get (trees_of f) i) ≡ Some x →
    (y : Plain) × (slice_get (trees_of f) i ≡ Some y) × (at js y ≡ Some x)
tree-there js f i x e = which (slice_get (trees_of f) i) e where
  which : (o : Option Plain) → option_and_then (at js) o ≡ Some x → (y : Plain) × (o ≡ Some y) × (at js y ≡ Some x)
  which None g = cc
  which (Some y) g = (y, refl, g)

pub tree-well : (f : Forest) (i : ℕ) (y : Plain) → WellFormed f → slice_get (trees_of f) i ≡ Some y → IsWellFormed y
tree-well Nil i y h e = cc
tree-well (Cons k w ns ks ts) zero y h e = let same : tree_of k w ns ks ≡ y = cc in subst IsWellFormed same (h.0, h.1, h.2, h.3, tt)
tree-well (Cons k w ns ks ts) (suc i) y h e = tree-well ts i y h.4 e

-- ---- a block

-- an expression stands in the fifth kid or in the list of routines
parts-way : (v1 : List ℕ) (n1 : List (List ℕ)) (k1 : Forest) (v2 : List ℕ) (n2 : List (List ℕ)) (k2 : Forest) (v3 : List ℕ) (n3 : List (List ℕ)) (k3 : Forest) (four five : Plain) (i : ℕ) (js : List ℕ) (x : Plain) →
    WellFormed (Cons kind.Consts v1 n1 k1 (Cons kind.Types v2 n2 k2 (Cons kind.Vars v3 n3 k3 Nil))) → is_expression x.kind ≡ true →
    option_and_then (at js) (slice_get (tree_of kind.Consts v1 n1 k1 ∷ tree_of kind.Types v2 n2 k2 ∷ tree_of kind.Vars v3 n3 k3 ∷ four ∷ five ∷ []) i) ≡ Some x →
    (i ≡ 4) ⊎ ((i ≡ 3) × (at js four ≡ Some x))
parts-way v1 n1 k1 v2 n2 k2 v3 n3 k3 four five zero js x h f e =
    absurd (outer-way js (tree_of kind.Consts v1 n1 k1) x (tree-outer kind.Consts v1 n1 k1 refl (h.0, h.1, h.2, h.3, tt)) e f)
parts-way v1 n1 k1 v2 n2 k2 v3 n3 k3 four five (suc zero) js x h f e =
    absurd (outer-way js (tree_of kind.Types v2 n2 k2) x (tree-outer kind.Types v2 n2 k2 refl (h.4.0, h.4.1, h.4.2, h.4.3, tt)) e f)
parts-way v1 n1 k1 v2 n2 k2 v3 n3 k3 four five (suc (suc zero)) js x h f e =
    absurd (outer-way js (tree_of kind.Vars v3 n3 k3) x (tree-outer kind.Vars v3 n3 k3 refl (h.4.4.0, h.4.4.1, h.4.4.2, h.4.4.3, tt)) e f)
parts-way v1 n1 k1 v2 n2 k2 v3 n3 k3 four five (suc (suc (suc zero))) js x h f e = inr (refl, e)
parts-way v1 n1 k1 v2 n2 k2 v3 n3 k3 four five (suc (suc (suc (suc zero)))) js x h f e = inl refl
parts-way v1 n1 k1 v2 n2 k2 v3 n3 k3 four five (suc (suc (suc (suc (suc i))))) js x h f e = cc

pub block-way : (f : Forest) (b : BlockParts f) (i : ℕ) (js : List ℕ) (x : Plain) → WellFormed f → is_expression x.kind ≡ true → option_and_then (at js) (slice_get (trees_of f) i) ≡ Some x →
    (i ≡ 4) ⊎ ((i ≡ 3) × (at js (tree_of kind.Routines b.v4 b.n4 b.k4) ≡ Some x))
block-way f b i js x well expr e =
    let h = subst WellFormed b.is well in
    parts-way b.v1 b.n1 b.k1 b.v2 b.n2 b.k2 b.v3 b.n3 b.k3 (tree_of kind.Routines b.v4 b.n4 b.k4) (tree_of b.j b.v5 b.n5 b.k5) i js x
    (h.0, h.1, h.2, h.3, (h.4.0, h.4.1, h.4.2, h.4.3, (h.4.4.0, h.4.4.1, h.4.4.2, h.4.4.3, tt))) expr
    (subst (λ (g : Forest). option_and_then (at js) (slice_get (trees_of g) i) ≡ Some x) b.is e)

-- ---- the kids of a routine

-- a path leads through the block, the last kid
pub record IsInBlock (f : Forest) (i : ℕ) (js : List ℕ) (x : Plain) : Type 0 where
  pub number : ℕ
  pub rest : List ℕ
  pub way_is : js ≡ suc number ∷ rest
  pub last : kid_count f ≡ suc i
  pub kids : Forest
  pub block : AreOfBlock f kids
  pub found : option_and_then (at rest) (slice_get (trees_of kids) number) ≡ Some x

either-or : (x y : Bool) → (x || y) ≡ true → y ≡ false → x ≡ true
either-or true y h e = refl
either-or false y h e = absurd (true≢false (sym h ∙ e))

-- the last kid
last-way : (k : Kind) (w : List ℕ) (ns : List (List ℕ)) (ks : Forest) (js : List ℕ) (x : Plain) → is_headed k ≡ true → WellFormed (Cons k w ns ks Nil) → is_expression x.kind ≡ true →
    at js (tree_of k w ns ks) ≡ Some x → IsInBlock (Cons k w ns ks Nil) 0 js x
last-way k w ns ks js x head well expr e =
    by-block (λ j. is_headed j ≡ true → WellFormed (Cons j w ns ks Nil) → at js (tree_of j w ns ks) ≡ Some x → IsInBlock (Cons j w ns ks Nil) 0 js x) k
    (λ h c g. through js g c)
    (λ n h c g. absurd (outer-way js (tree_of k w ns ks) x (tree-outer k w ns ks (either-or (is_outer k) (is_the_block k) h n) c) g expr)) head well e where
      through : (way : List ℕ) → at way (tree_of kind.Block w ns ks) ≡ Some x → WellFormed (Cons kind.Block w ns ks Nil) → IsInBlock (Cons kind.Block w ns ks Nil) 0 way x
      through [] g c = let same : tree_of kind.Block w ns ks ≡ x = cc in absurd (true≢false (sym (subst (λ (y : Plain). is_expression y.kind ≡ true) (sym same) expr)))
      through (a ∷ way) g c =
          let on = kid-way a way (tree_of kind.Block w ns ks) x g in
          record { number = on.0; rest = way; way_is = ap (λ (n : ℕ). n ∷ way) on.1; last = refl; kids = ks; block = record { word = w; fits = c.0; well = c.3; same = refl }; found = on.2 }

pub head-way : (f : Forest) (i : ℕ) (js : List ℕ) (x : Plain) → Passes is_headed f → WellFormed f → BlockLast f → is_expression x.kind ≡ true →
    option_and_then (at js) (slice_get (trees_of f) i) ≡ Some x → IsInBlock f i js x
head-way Nil i js x h well last expr e = absurd last
head-way (Cons k w ns ks Nil) zero js x h well last expr e = last-way k w ns ks js x h.0 well expr e
head-way (Cons k w ns ks Nil) (suc i) js x h well last expr e = cc
head-way (Cons k w ns ks (Cons j v ms is ts)) zero js x h well last expr e =
    absurd (outer-way js (tree_of k w ns ks) x (tree-outer k w ns ks (either-or (is_outer k) (is_the_block k) h.0 last.0) (well.0, well.1, well.2, well.3, tt)) e expr)
head-way (Cons k w ns ks (Cons j v ms is ts)) (suc i) js x h well last expr e =
    let d = head-way (Cons j v ms is ts) i js x h.1 well.4 last.1 expr e in
    record {
      number = d.number;
      rest = d.rest;
      way_is = d.way_is;
      last = ap suc d.last;
      kids = d.kids;
      block = record { word = d.block.word; fits = d.block.fits; well = d.block.well; same = block-next k w ns ks (Cons j v ms is ts) last.0 ∙ d.block.same };
      found = d.found;
    }
