use Rattle.std.proofs.Common.{◌≡◌, length}
use Rattle.pc_syntax.specs.Words as words
use Rattle.std.specs.List.{list_all}
use Rattle.pc_syntax.proofs.bytes.are_digits.Given as goal

abbrev pub invariant-loop-rest : goal.invariant-loop-rest
invariant-loop-rest l = list_all words.is_digit l.rest ≡ list_all words.is_digit l.bytes

abbrev pub decreases-loop-rest : goal.decreases-loop-rest
decreases-loop-rest l = length l.rest
