use Rattle.std.proofs.Common.{◌≡◌, Some, arith, ap, sym}
use Rattle.pc_syntax.specs.Places.{at, put}
use Rattle.pc_syntax.specs.Measured.{node_count}
use Rattle.pc_syntax.proofs.Measuring.{size_of-put}
use Rattle.pc_syntax.proofs.tree.Tree.size_with.Goals as goal

pub overflow_sub-others : goal.overflow_sub-others
overflow_sub-others c =
    let place : at c.args.path.now c.args.self.now ≡ Some c.in_ok-old.old.now = sym c.in_ok-old.ensures in
    omega (arith, c.size.ensures.value, c.size-2.ensures.value, (size_of-put c.in_ok-old.old.now c.in_ok-old.old.now c.args.path.now c.args.self.now place).1)

pub returns-clause-counts : goal.returns-clause-counts
returns-clause-counts c q e =
    let place : at c.args.path.now c.args.self.now ≡ Some c.in_ok-old.old.now = sym c.in_ok-old.ensures in
    let sizes = size_of-put q c.in_ok-old.old.now c.args.path.now c.args.self.now place in
    let is : c.saturating_add.result ≡ node_count (put c.args.path.now c.args.self.now q) =
    omega (arith, c.saturating_add.ensures, c.size.ensures.value, c.size-2.ensures.value, e, sizes.0, sizes.1) in
    rw place (ap Some is)
