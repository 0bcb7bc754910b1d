-- Unsigned numbers (ISO 7185, 6.1.5).
use Rattle.std.specs.Prelude.{ℕ, if◌then◌else◌, nat_le, List, take}
use Rattle.pc_syntax.specs.Words.{is_digit, value_after, numeral_limit}
use Rattle.pc_lex.specs.declared.error.LexError.TheVariants.{LongNumeral}
use Rattle.pc_lex.specs.declared.symbol.SymbolKind.TheVariants.{Numeral}
use Rattle.pc_lex.specs.declared.front.Front.{Front}
use Rattle.pc_lex.specs.declared.front.Front.TheVariants.{Symbol, Fault}
use Rattle.pc_lex.specs.Runs.{run}

-- a digit stands here: all the digits from it on are one numeral, not over 2^128 - 1
unfoldable pub numeral_at : List ℕ → Front
numeral_at bs = if nat_le (value_after 0 (take (run is_digit bs) bs)) numeral_limit then Symbol Numeral (run is_digit bs) else Fault (LongNumeral 1)
