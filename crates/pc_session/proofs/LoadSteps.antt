-- From what is answered about symbols to what is found about a text.
use Rattle.std.proofs.Common.{◌≢◌, ◌+◌, ◌≤◌, ℕ, List, Option, Some, None, length, Err, refl, arith}
use Rattle.std.proofs.lemmas.List.{length-map}
use Rattle.pc_lex.specs.declared.symbol.Span.{Span}
use Rattle.pc_lex.specs.declared.symbol.Symbol.{Symbol}
use Rattle.pc_lex.specs.Views.{plain_symbol, plain_symbols}
use Rattle.pc_lex.specs.declared.error.LexError.{LexError}
use Rattle.pc_lex.specs.declared.error.LexError.TheVariants.{BadByte, OpenComment, OpenString, EmptyString, LongNumeral, NoMemory}
use Rattle.pc_lex.specs.Spells.{Spells, FirstFault}
use Rattle.pc_lex.specs.Laws.{Spells-unique}
use Rattle.pc_partial.specs.Retyping.{StepsOnSymbols}
use Rattle.pc_session.specs.Finding.{FindsSymbols, unspelled}

-- A text with a fault spells no list of symbols.
pub FindsSymbols-unspelled : (text : List ℕ) (e : LexError) → (e ≢ NoMemory → FirstFault text e) → FindsSymbols text (Err (unspelled e))
FindsSymbols-unspelled text (BadByte k) fault = record { first = fault (λ e. cc); lexical = λ e. cc }
FindsSymbols-unspelled text (OpenComment k) fault = record { first = fault (λ e. cc); lexical = λ e. cc }
FindsSymbols-unspelled text (OpenString k) fault = record { first = fault (λ e. cc); lexical = λ e. cc }
FindsSymbols-unspelled text (EmptyString k) fault = record { first = fault (λ e. cc); lexical = λ e. cc }
FindsSymbols-unspelled text (LongNumeral k) fault = record { first = fault (λ e. cc); lexical = λ e. cc }
FindsSymbols-unspelled text NoMemory fault = tt

-- A bound by the symbols that were found is one by those that the text spells.
pub StepsOnSymbols-found : (text : List ℕ) (found : List Symbol) (tail : List Span) (before after : ℕ) → Spells text (plain_symbols found) tail →
    after ≤ before + length found → StepsOnSymbols text before after
StepsOnSymbols-found text found tail before after spells bound = record {
  spelled = λ symbols rest spelled.
      let same = Spells-unique text symbols (plain_symbols found) rest tail spelled spells in
      rw (same.0, length-map found plain_symbol) bound;
  unspelled = λ none. absurd (none (plain_symbols found) tail spells);
}
