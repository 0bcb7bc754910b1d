use Rattle.std.proofs.Common.{◌≡◌, ◌<◌, ◌^◌, length}
use Rattle.pc_syntax.specs.Words as words
use Rattle.pc_syntax.proofs.bytes.value_of.Given as goal

-- the digits that are left make the number of the value before them
abbrev pub invariant-loop-rest : goal.invariant-loop-rest
invariant-loop-rest l = (words.value_after l.value l.rest ≡ words.value_after 0 l.digits) × (l.value < 2 ^ 128)

abbrev pub decreases-loop-rest : goal.decreases-loop-rest
decreases-loop-rest l = length l.rest
