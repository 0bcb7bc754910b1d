-- When the regions of code stand for the blocks of a tree.
use Rattle.std.specs.Prelude.{◌≡◌, ℕ, zero, suc, List, Option, Some, None, slice_get}
use Rattle.std.specs.Option.{option_and_then}
use Rattle.pc_syntax.specs.Plain.{Plain}
use Rattle.pc_scope.specs.Around.{Block, program_block, inner_block}
use Rattle.pc_scope.specs.Lookup.{declared_here}
use Rattle.pc_scope.specs.Table.{first_of, declarations_in}
use Rattle.pc_scope.specs.declared.region.Region.{Region}
use Rattle.pc_scope.specs.declared.scopes.Scopes.{Scopes}

-- the region of the n-th routine in a region
abbrev pub inner_of : Region → ℕ → Option ℕ
inner_of g zero = None
inner_of g (suc i) = option_and_then (λ o. o) (slice_get g.inner.items i)

-- either a region and a block, which belong together, or neither
abbrev pub Both : (ℕ → Block → Type 0) → Option ℕ → Option Block → Type 0
Both P None None = Unit
Both P (Some r) (Some b) = P r b
Both P None (Some b) = ⊥
Both P (Some r) None = ⊥

-- The region with a number stands for a block, as far as so many levels: it has the block's names and number, and for each routine in the
-- block a region that stands for the block of that routine.
unfoldable pub Stands : ℕ → List Region → ℕ → Block → Type 0
Stands zero rs r b = Unit
Stands (suc levels) rs r b =
    (g : Region) × (slice_get rs r ≡ Some g) × ((n : List ℕ) → first_of n (declarations_in g.names.entries.items) ≡ declared_here n b) × (g.number ≡ b.number)
    × ((n : ℕ) → Both (Stands levels rs) (inner_of g n) (inner_block b n))

-- a region stands for a block, on all levels
abbrev pub StandsForBlock : List Region → ℕ → Block → Type 0
StandsForBlock rs r b = (levels : ℕ) → Stands levels rs r b

-- what regions stand for, they still stand for
abbrev pub KeepsBlocks : List Region → List Region → Type 0
KeepsBlocks old new = (r : ℕ) (b : Block) → StandsForBlock old r b → StandsForBlock new r b

-- the region of the routine with an index
abbrev pub inner_at : List (Option ℕ) → ℕ → Option ℕ
inner_at inner i = option_and_then (λ o. o) (slice_get inner i)

-- scopes stand for a tree
unfoldable pub StandsFor : Scopes → Plain → Type 0
StandsFor s t = StandsForBlock s.regions.items s.root (program_block t)
