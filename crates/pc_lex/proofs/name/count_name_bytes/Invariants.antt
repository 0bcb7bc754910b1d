use Rattle.std.proofs.Common.{◌≡◌, ◌+◌, drop}
use Rattle.pc_syntax.specs.Words.{is_name_byte}
use Rattle.pc_lex.specs.Runs.{run}
use Rattle.pc_lex.proofs.name.count_name_bytes.Given as goal

-- what was passed is part of the row
abbrev pub invariant-loop-i : goal.invariant-loop-i
invariant-loop-i l = run is_name_byte l.text ≡ l.i + run is_name_byte (drop l.i l.text)
