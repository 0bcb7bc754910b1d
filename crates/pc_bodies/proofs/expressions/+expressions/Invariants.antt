use Rattle.std.proofs.Common.{take, ◌*◌, ◌+◌}
use Rattle.pc_syntax.specs.WellFormed.{size_of}
use Rattle.pc_bodies.specs.Resolved.{ResolveAs, ResolvesRow}
use Rattle.pc_facts.specs.Shows.{ShowsArgument}
use Rattle.pc_bodies.specs.Held.{ShowsHeld}
use Rattle.pc_bodies.proofs.expressions.+expressions.Given as goal

abbrev pub decreases-expression : goal.decreases-expression
decreases-expression l = 2 * size_of l.node.now

abbrev pub decreases-expressions : goal.decreases-expressions
decreases-expressions l = 2 * size_of l.list.now

abbrev pub invariant-expressions-loop-kid : goal.invariant-expressions-loop-kid
invariant-expressions-loop-kid l = ResolvesRow l.body l.initial.going l.going (take l.kid-index l.kid-items) l.found.items

abbrev pub decreases-members_of : goal.decreases-members_of
decreases-members_of l = 2 * size_of l.list.now

abbrev pub decreases-member : goal.decreases-member
decreases-member l = 2 * size_of l.node.now + 1

abbrev pub invariant-members_of-loop-kid : goal.invariant-members_of-loop-kid
invariant-members_of-loop-kid l = ResolveAs ShowsHeld l.body l.initial.going l.going (take l.kid-index l.kid-items) l.found.items

abbrev pub decreases-arguments_of : goal.decreases-arguments_of
decreases-arguments_of l = 2 * size_of l.list.now

abbrev pub decreases-argument : goal.decreases-argument
decreases-argument l = 2 * size_of l.node.now + 1

abbrev pub invariant-arguments_of-loop-kid : goal.invariant-arguments_of-loop-kid
invariant-arguments_of-loop-kid l = ResolveAs ShowsArgument l.body l.initial.going l.going (take l.kid-index l.kid-items) l.found.items
