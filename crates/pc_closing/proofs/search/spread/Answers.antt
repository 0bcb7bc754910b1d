use Rattle.std.proofs.Common.{arith, sym, ◌∙◌}
use Rattle.pc_closing.specs.StepLaws.{spread-step, spread-smaller, spread-end}
use Rattle.pc_closing.proofs.search.spread.Goals as goal

pub overflow_add-at : goal.overflow_add-at
overflow_add-at c = omega (arith, c.in-Some.ensures.small)

pub loop-part-preserved : goal.loop-part-preserved
loop-part-preserved c =
    spread-step c.args.users.now c.args.marks.now c.loop-part.marks c.enter_all.new.self c.loop-part.at c.in-Some.part c.users_of.result.now (sym c.in-Some.ensures.value) c.users_of.ensures c.in_ok-enter_all.ensures c.loop-part.invariant

pub loop-part-smaller : goal.loop-part-smaller
loop-part-smaller c =
    spread-smaller c.args.users.now c.args.marks.now c.loop-part.marks c.enter_all.new.self c.loop-part.at c.in-Some.part (sym c.in-Some.ensures.value) c.loop-part.invariant
    (spread-step c.args.users.now c.args.marks.now c.loop-part.marks c.enter_all.new.self c.loop-part.at c.in-Some.part c.users_of.result.now (sym c.in-Some.ensures.value) c.users_of.ensures c.in_ok-enter_all.ensures c.loop-part.invariant)

pub returns : goal.returns
returns c = spread-end c.args.users.now c.args.marks.now c.loop-part.marks c.loop-part.at (sym c.found.ensures.value ∙ c.in_default.is) c.loop-part.invariant
