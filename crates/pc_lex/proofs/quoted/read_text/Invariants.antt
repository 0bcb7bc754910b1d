use Rattle.std.proofs.Common.{◌≡◌, ◌≤◌, ◌-◌, length, drop}
use Rattle.pc_lex.specs.Quoted.{text_after}
use Rattle.pc_lex.proofs.quoted.read_text.Given as goal

-- the text goes on over what was passed
abbrev pub invariant-loop-at : goal.invariant-loop-at
invariant-loop-at l = record {
  within : l.at ≤ length l.text;
  goes_on : text_after 1 (drop 1 l.text) ≡ text_after l.at (drop l.at l.text);
}

abbrev pub decreases-loop-at : goal.decreases-loop-at
decreases-loop-at l = length l.text - l.at
