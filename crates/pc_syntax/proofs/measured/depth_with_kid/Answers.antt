use Rattle.std.proofs.Common.{map, arith}
use Rattle.std.proofs.lemmas.List.{length-map}
use Rattle.pc_syntax.specs.WellFormed.{depth_of}
use Rattle.pc_syntax.specs.Plain.{kids_of}
use Rattle.pc_syntax.proofs.Measuring.{largest-at, level_count-with_kid}
use Rattle.pc_syntax.proofs.measured.depth_with_kid.Goals as goal

pub returns-clause-counts : goal.returns-clause-counts
returns-clause-counts c q e =
    let deepest = rw c.kid_slice.ensures.value at c.deepest_with.ensures in
    level_count-with_kid c.args.tree.now c.args.i q c.args.depth c.saturating_add.result c.requires e (rw (← deepest) c.saturating_add.ensures)

pub returns-clause-no_fewer : goal.returns-clause-no_fewer
returns-clause-no_fewer c =
    let deepest = rw c.kid_slice.ensures.value at c.deepest_with.ensures in
    omega (arith, deepest, c.saturating_add.ensures, c.ranges.depth.fits, largest-at (map depth_of (kids_of c.args.tree.now)) c.args.i c.args.depth (rw length-map c.requires))
