use Rattle.std.proofs.Common.{◌≡◌, ◌+◌, drop}
use Rattle.pc_syntax.specs.Words.{is_digit}
use Rattle.pc_lex.specs.Runs.{run}
use Rattle.pc_lex.proofs.numeral.count_digits.Given as goal

-- what was passed is part of the row
abbrev pub invariant-loop-i : goal.invariant-loop-i
invariant-loop-i l = run is_digit l.text ≡ l.i + run is_digit (drop l.i l.text)
