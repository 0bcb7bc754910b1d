use Rattle.std.proofs.Common.{◌≡◌, length}
use Rattle.pc_syntax.specs.Words as words
use Rattle.pc_syntax.proofs.words.ends_comment.Given as goal

abbrev pub invariant-loop-rest : goal.invariant-loop-rest
invariant-loop-rest l = words.ends_comment l.rest ≡ words.ends_comment l.bytes

abbrev pub decreases-loop-rest : goal.decreases-loop-rest
decreases-loop-rest l = length l.rest
