use Rattle.std.proofs.Common.{◌≡◌, ℕ, suc, ◌<◌, length}
use Rattle.pc_syntax.specs.WellFormed.{size_of}
use Rattle.pc_scope.specs.Around.{inner_block}
use Rattle.pc_scope.specs.Blocks.{block_kids}
use Rattle.pc_scope.specs.Sites.{block_at}
use Rattle.pc_scope.specs.Stands.{Both, StandsForBlock, KeepsBlocks, inner_at}
use Rattle.pc_scope.proofs.building.+add_block.Given as goal

abbrev pub decreases-add_block : goal.decreases-add_block
decreases-add_block l = size_of l.tree.now

abbrev pub invariant-loop-i : goal.invariant-loop-i
invariant-loop-i l = record {
  count : length l.inner.items ≡ l.i;
  kept : KeepsBlocks l.fn.regions.items l.regions.items;
  inner : (j : ℕ) → j < l.i → Both (StandsForBlock l.regions.items) (inner_at l.inner.items j) (inner_block (block_at l.fn.site (block_kids l.fn.tree.kids)) (suc j));
}
