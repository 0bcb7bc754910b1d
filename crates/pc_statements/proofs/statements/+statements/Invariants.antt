use Rattle.std.proofs.Common.{take, ◌*◌, ◌+◌}
use Rattle.pc_syntax.specs.WellFormed.{size_of}
use Rattle.pc_facts.specs.Shows.{ShowsArm}
use Rattle.pc_statements.specs.Walked.{WalkAs, WalksRow}
use Rattle.pc_statements.proofs.statements.+statements.Given as goal

abbrev pub decreases-walk : goal.decreases-walk
decreases-walk l = 2 * size_of l.node.now

abbrev pub decreases-statements : goal.decreases-statements
decreases-statements l = 2 * size_of l.list.now

abbrev pub invariant-statements-loop-kid : goal.invariant-statements-loop-kid
invariant-statements-loop-kid l = WalksRow l.body l.initial.going l.going l.initial.own l.own (take l.kid-index l.kid-items) l.kids.items

abbrev pub decreases-with : goal.decreases-with
decreases-with l = 2 * (size_of l.records.now + size_of l.inner.now) + 1

abbrev pub decreases-counted : goal.decreases-counted
decreases-counted l = 2 * size_of l.inner.now + 1

abbrev pub decreases-cased : goal.decreases-cased
decreases-cased l = 2 * size_of l.list.now + 1

abbrev pub decreases-arms_of : goal.decreases-arms_of
decreases-arms_of l = 2 * size_of l.list.now

abbrev pub invariant-arms_of-loop-kid : goal.invariant-arms_of-loop-kid
invariant-arms_of-loop-kid l = WalkAs ShowsArm l.body l.initial.going l.going l.initial.own l.own (take l.kid-index l.kid-items) l.found.items

abbrev pub decreases-arm : goal.decreases-arm
decreases-arm l = 2 * size_of l.node.now + 1
