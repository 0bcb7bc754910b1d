use Rattle.std.proofs.Common.{◌≡◌, ◌≤◌, ◌∷◌, Some, arith, sym, length}
use Rattle.std.specs.Option.{IsSome}
use Rattle.pc_syntax.specs.Parts.{kid_at}
use Rattle.pc_syntax.specs.Places.{at}
use Rattle.pc_syntax.proofs.Changed.{kid_below, at-step}
use Rattle.pc_syntax.proofs.Fewer.{proper-cut}
use Rattle.pc_syntax.proofs.tree.Tree.+cut_at.Goals as goal

pub cut_at-requires : goal.cut_at-requires
cut_at-requires t c =
    let p = c.args.self.now in
    let k = c.in-Some-kid.kid.now in
    let i = c.in-Some.step.now in
    let is = c.in-Some.rest.now in
    let steps = c.in-Some.ensures.cases in
    let kid : kid_at p i ≡ Some k = sym c.in-Some-kid.ensures.value in
    let place : IsSome (at (i ∷ is) p) = rw steps.0 at c.requires in
    (omega (arith, steps.1, c.decreases), rw (at-step p k i is kid) at place)

pub with_kid-requires-clause-in_bounds : goal.with_kid-requires-clause-in_bounds
with_kid-requires-clause-in_bounds t c = kid_below c.args.self.now c.in-Some-kid.kid.now c.in-Some.step.now (sym c.in-Some-kid.ensures.value)

pub with_kid-requires-clause-proper : goal.with_kid-requires-clause-proper
with_kid-requires-clause-proper t c =
    let p = c.args.self.now in
    let k = c.in-Some-kid.kid.now in
    let i = c.in-Some.step.now in
    let is = c.in-Some.rest.now in
    let steps = c.in-Some.ensures.cases in
    let kid : kid_at p i ≡ Some k = sym c.in-Some-kid.ensures.value in
    let place : IsSome (at (i ∷ is) p) = rw steps.0 at c.requires in
    let some : 1 ≤ length is = grind arith in
    rw c.in_ok-new.ensures (proper-cut p k i is kid some (rw (at-step p k i is kid) at place) c.in-Some-kid.ensures.proper)
