use Rattle.std.proofs.Common.{◌≡◌, ◌+◌, drop}
use Rattle.pc_syntax.specs.Words.{is_letter}
use Rattle.pc_lex.specs.Runs.{run}
use Rattle.pc_lex.proofs.hole.count_letters.Given as goal

-- what was passed is part of the row
abbrev pub invariant-loop-i : goal.invariant-loop-i
invariant-loop-i l = run is_letter l.text ≡ l.i + run is_letter (drop l.i l.text)
