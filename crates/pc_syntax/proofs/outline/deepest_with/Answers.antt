use Rattle.std.proofs.Common.{◌≡◌, get_or, slice_set, map, ◌∙◌}
use Rattle.pc_syntax.specs.WellFormed.{depth_of}
use Rattle.pc_syntax.proofs.Changed.{with_depth-here, with_depth-other, deepest_more}
use Rattle.pc_syntax.proofs.outline.deepest_with.Goals as goal
use Rattle.pc_syntax.proofs.outline.deepest_with.Goals.{then-j-i, else-j-i}

pub loop-j-preserved : goal.loop-j-preserved
loop-j-preserved c =
    let ts = c.args.trees.now in
    let depth_is : c.if-j-i.max ≡ get_or (slice_set (map depth_of ts) c.args.i c.args.depth) c.loop-j.j 0 =
    elim c.if-j-i.branch [
      | then-j-i w ↦ w.max-is ∙ with_depth-here ts c.args.i c.args.depth c.loop-j.j c.loop-j-test.true w.if-j-i.true
      | else-j-i w ↦ w.max-is ∙ w.depth.ensures.value ∙ with_depth-other ts c.args.i c.args.depth c.loop-j.j c.loop-j-test.true w.if-j-i.false c.index-trees-j.result c.index-trees-j.is
    ] in
    c.max-deepest.ensures ∙ deepest_more ts c.args.i c.args.depth c.loop-j.j c.loop-j-test.true _ _ c.loop-j.invariant depth_is
