use Rattle.std.proofs.Common.{◌≡◌, ◌<◌, ◌^◌, drop}
use Rattle.pc_syntax.specs.Words.{value_after}
use Rattle.pc_lex.proofs.numeral.is_within_limit.Given as goal

-- the rest of the digits follow the number of those that were passed
abbrev pub invariant-loop-b : goal.invariant-loop-b
invariant-loop-b l = record {
  within : l.value < 2 ^ 128;
  follows : value_after 0 l.digits ≡ value_after l.value (drop l.b-index l.digits);
}
