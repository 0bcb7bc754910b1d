use Rattle.std.proofs.Common.{take}
use Rattle.pc_bodies.specs.Resolved.{ResolvesRow}
use Rattle.pc_statements.proofs.arms.labels_of.Given as goal

abbrev pub invariant-loop-kid : goal.invariant-loop-kid
invariant-loop-kid l = ResolvesRow l.body l.initial.going l.going (take l.kid-index l.kid-items) l.kids.items
