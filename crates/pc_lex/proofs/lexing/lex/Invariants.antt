use Rattle.std.proofs.Common.{◌≤◌, ◌-◌, length}
use Rattle.pc_lex.specs.Views.{plain_symbols}
use Rattle.pc_lex.proofs.Reading.{HasRead}
use Rattle.pc_lex.proofs.lexing.lex.Given as goal

-- all before `at` was read
abbrev pub invariant-reading : goal.invariant-reading
invariant-reading l = record {
  within : l.at ≤ length l.text;
  read : HasRead l.text (plain_symbols l.symbols.items) l.notes.items l.at;
}

abbrev pub decreases-reading : goal.decreases-reading
decreases-reading l = length l.text - l.at
