use Rattle.std.proofs.Common.{◌+◌, length, arith, ap, ◌∙◌, length-append}
use Rattle.pc_scope.proofs.CountingSteps.{table-more, number-here, each-more, counts-all}
use Rattle.pc_scope.proofs.counting.counting.Goals as goal

pub loop-i-preserved : goal.loop-i-preserved
loop-i-preserved c =
    let ts = c.args.routines.now in
    let i = c.loop-i.i in
    let t = c.index-routines-i.result in
    record {
      count = ap length c.in_ok-push.ensures.items ∙ length-append c.loop-i.numbers.items _ ∙ ap (λ n. n + 1) c.loop-i.invariant.count;
      each = each-more ts i t c.loop-i-test.true c.index-routines-i.is c.loop-i.numbers.items c.push.new.self.items c.counting.result c.loop-i.invariant.count c.in_ok-push.ensures.items
          (number-here ts i t c.loop-i-test.true c.index-routines-i.is c.loop-i.waiting c.counting.result c.loop-i.invariant.waiting c.in_ok-heading.heading c.in_ok-heading.ensures c.counting.ensures)
          c.loop-i.invariant.each;
      waiting = table-more ts i t c.loop-i-test.true c.index-routines-i.is c.loop-i.waiting c.pass.new.self c.loop-i.invariant.waiting
          (rw c.in_ok-heading.ensures at c.in_ok-pass.ensures);
    }

pub returns : goal.returns
returns c = counts-all c.args.routines.now c.loop-i.numbers.items c.loop-i.i c.loop-i.invariant.count (omega arith) c.loop-i.invariant.each
