use Rattle.std.proofs.Common.{◌≡◌, ◌++◌, length}
use Rattle.pc_rules.specs.Constants as constants
use Rattle.pc_expression_rules.proofs.characters.characters_after.Given as goal

-- the characters so far and those of the rest are all
abbrev pub invariant-loop-rest : goal.invariant-loop-rest
invariant-loop-rest l = l.chars.items ++ constants.characters_after l.rest ≡ constants.characters_after l.bytes

abbrev pub decreases-loop-rest : goal.decreases-loop-rest
decreases-loop-rest l = length l.rest
