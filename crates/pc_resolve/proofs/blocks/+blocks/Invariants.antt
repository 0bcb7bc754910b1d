use Rattle.std.proofs.Common.{◌*◌, ◌+◌, [], ◌∷◌, ◌++◌, length}
use Rattle.pc_syntax.specs.WellFormed.{size_of}
use Rattle.pc_resolve.specs.Walking.{Walking}
use Rattle.pc_resolve.proofs.blocks.+blocks.Given as goal

abbrev pub decreases-block : goal.decreases-block
decreases-block l = 2 * size_of l.node.now

abbrev pub decreases-block_routines : goal.decreases-block_routines
decreases-block_routines l = 2 * size_of l.list.now

abbrev pub decreases-routine : goal.decreases-routine
decreases-routine l = 2 * size_of l.node.now + 1

abbrev pub decreases-routine_block : goal.decreases-routine_block
decreases-routine_block l = 2 * size_of l.node.now

-- ---- the loop over a list of routines (R2)

abbrev pub invariant-block_routines-loop-rest : goal.invariant-block_routines-loop-rest
invariant-block_routines-loop-rest l =
    Walking l.fn.block.0 l.fn.site l.fn.number l.fn.list (l.fn.site.place ++ l.fn.number ∷ 4 ∷ []) l.rest l.headings l.count l.fn.resolver l.waiting l.resolver l.own.items l.inside.items

abbrev pub decreases-block_routines-loop-rest : goal.decreases-block_routines-loop-rest
decreases-block_routines-loop-rest l = length l.rest
