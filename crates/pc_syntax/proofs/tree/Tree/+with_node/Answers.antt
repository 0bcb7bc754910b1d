use Rattle.std.proofs.Common.{◌≡◌, ◌∷◌, Some, arith, sym}
use Rattle.std.specs.Option.{IsSome}
use Rattle.pc_syntax.specs.WellFormed.{IsProper}
use Rattle.pc_syntax.specs.Parts.{kid_at}
use Rattle.pc_syntax.specs.Places.{at, put}
use Rattle.pc_syntax.proofs.Changed.{kid_below, at-step, proper-step}
use Rattle.pc_syntax.proofs.tree.Tree.+with_node.Goals as goal

pub with_node-requires : goal.with_node-requires
with_node-requires t c =
    let p = c.args.self.now in
    let k = c.in-Some-kid.kid.now in
    let i = c.in-Some.step.now in
    let is = c.in-Some.rest.now in
    let steps = c.in-Some.ensures.cases in
    let kid : kid_at p i ≡ Some k = sym c.in-Some-kid.ensures.value in
    let place : IsSome (at (i ∷ is) p) = rw steps.0 at c.requires.place in
    let proper : IsProper (put (i ∷ is) p c.args.piece) = rw steps.0 at c.requires.proper in
    (omega (arith, steps.1, c.decreases), (rw (at-step p k i is kid) at place, proper-step p k i is kid c.args.piece proper))

pub with_kid-requires-clause-in_bounds : goal.with_kid-requires-clause-in_bounds
with_kid-requires-clause-in_bounds t c = kid_below c.args.self.now c.in-Some-kid.kid.now c.in-Some.step.now (sym c.in-Some-kid.ensures.value)
