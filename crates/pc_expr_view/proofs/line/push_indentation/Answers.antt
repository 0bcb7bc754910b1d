use Rattle.std.proofs.Common.{◌≡◌, ◌+◌, ◌-◌, suc, arith}
use Rattle.pc_expr_view.proofs.Pieces.{indentation-more}
use Rattle.pc_expr_view.proofs.line.push_indentation.Goals as goal

pub loop-done-preserved : goal.loop-done-preserved
loop-done-preserved c =
    let left : c.args.level - c.loop-done.done ≡ suc (c.args.level - (c.loop-done.done + 1)) = omega (arith, c.loop-done-test.true) in
    indentation-more c.loop-done.text.items c.extend_from_slice.new.self.items _ (c.args.level - (c.loop-done.done + 1))
    c.in_ok-extend_from_slice.ensures.items (rw left at c.loop-done.invariant)
