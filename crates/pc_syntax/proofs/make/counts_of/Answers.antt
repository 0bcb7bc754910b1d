use Rattle.pc_syntax.proofs.CountedSoFar.{counted_more}
use Rattle.pc_syntax.proofs.make.counts_of.Goals as goal

pub loop-kid-preserved : goal.loop-kid-preserved
loop-kid-preserved c =
    let more = counted_more _ _ _ _ _ _ c.loop-kid.invariant c.kid-item.result c.loop-kid-test.true c.kid-item.is c.depth.ensures.proper c.holes.ensures.fewer in
    rw (c.saturating_add-size.ensures, c.size.ensures.value, c.max-depth.ensures, c.depth.ensures.value, c.saturating_add-holes.ensures, c.holes.ensures.value) more
