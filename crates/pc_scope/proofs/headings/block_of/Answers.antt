use Rattle.std.proofs.Common.{ap, sym, ◌∙◌}
use Rattle.pc_syntax.specs.Plain.{forest_of}
use Rattle.pc_syntax.specs.PartsLaws.{forest_of-kids_of, size_of-kid}
use Rattle.pc_scope.specs.Blocks.{block_kids}
use Rattle.pc_scope.proofs.headings.block_of.Goals as goal

pub loop-kid-init : goal.loop-kid-init
loop-kid-init c = ap (λ ks. block_kids (forest_of ks)) c.kid_slice-kid-items.ensures.value ∙ ap block_kids (forest_of-kids_of c.args.tree.now)

pub returns-then-matches-clause-smaller : goal.returns-then-matches-clause-smaller
returns-then-matches-clause-smaller c =
    size_of-kid c.args.tree.now c.loop-kid.kid-index c.kid-item.result (rw c.kid_slice-kid-items.ensures.value at c.loop-kid-test.true) (rw c.kid_slice-kid-items.ensures.value at (sym c.kid-item.is))
