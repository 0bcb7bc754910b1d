use Rattle.std.proofs.Common.{◌+◌, ◌≤◌, arith, sym, ◌∙◌, ap}
use Rattle.pc_syntax.specs.Plain.{forest_of}
use Rattle.pc_syntax.specs.PartsLaws.{size_of-kid, forest_of-kids_of}
use Rattle.pc_syntax.specs.WellFormed.{size_of}
use Rattle.pc_scope.specs.Declarations.{declared_at}
use Rattle.pc_scope.proofs.InOrder.{silent-forest}
use Rattle.pc_scope.proofs.naming.+is_silent_below.Goals as goal

pub is_silent_below-requires : goal.is_silent_below-requires
is_silent_below-requires t c =
    let d : size_of c.kid-item.result + 1 ≤ size_of c.args.tree.now =
    size_of-kid c.args.tree.now c.loop-kid.kid-index c.kid-item.result (rw c.kid_slice-kid-items.ensures.value at c.loop-kid-test.true) (rw c.kid_slice-kid-items.ensures.value at (sym c.kid-item.is)) in
    (omega (arith, d, c.decreases), tt)

pub returns : goal.returns
returns t c = λ _ q.
    ap (declared_at q 1) (sym (forest_of-kids_of c.args.tree.now) ∙ ap forest_of (sym c.kid_slice-kid-items.ensures.value))
    ∙ silent-forest c.kid_slice-kid-items.result.now (λ j d l. c.loop-kid.invariant j d (omega (arith, l, c.loop-kid-test.false))) q 1
