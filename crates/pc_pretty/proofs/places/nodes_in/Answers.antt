use Rattle.std.proofs.Common.{◌<◌, ◌≤◌, ◌+◌, length, sum_by, take, ap, arith}
use Rattle.pc_syntax.specs.PartsLaws.{small-size, size_of-kids}
use Rattle.pc_syntax.specs.WellFormed.{size_of}
use Rattle.pc_pretty.proofs.Stepping.{sum-more, sum-room}
use Rattle.pc_pretty.proofs.places.nodes_in.Goals as goal

pub overflow_add-count : goal.overflow_add-count
overflow_add-count c =
    let all = c.kid_slice-all.result.now in
    let l : c.loop-i.i < length all = omega (arith, c.loop-i-test.true, c.requires, ap length c.kid_slice-all.ensures.value) in
    let room : sum_by size_of (take c.loop-i.i all) + size_of c.index-all-i.result ≤ sum_by size_of all = sum-room all c.loop-i.i c.index-all-i.result l c.index-all-i.is in
    grind (arith, room, c.loop-i.invariant, c.size.ensures.value, ap (sum_by size_of) c.kid_slice-all.ensures.value, size_of-kids c.args.node.now, small-size c.args.node.now c.kid_slice-all.ensures.proper)

pub loop-i-preserved : goal.loop-i-preserved
loop-i-preserved c =
    let all = c.kid_slice-all.result.now in
    let l : c.loop-i.i < length all = omega (arith, c.loop-i-test.true, c.requires, ap length c.kid_slice-all.ensures.value) in
    omega (arith, c.loop-i.invariant, c.size.ensures.value, sum-more all c.loop-i.i c.index-all-i.result l c.index-all-i.is)
