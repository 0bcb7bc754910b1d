use Rattle.std.proofs.Common.{take}
use Rattle.pc_bodies.specs.Resolved.{ResolveAs}
use Rattle.pc_facts.specs.Shows.{ShowsArgument}
use Rattle.pc_bodies.proofs.expressions.arguments.Given as goal

abbrev pub invariant-loop-kid : goal.invariant-loop-kid
invariant-loop-kid l = ResolveAs ShowsArgument l.body l.initial.going l.going (take l.kid-index l.kid-items) l.found.items
