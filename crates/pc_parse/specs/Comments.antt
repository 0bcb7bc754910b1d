-- The comments of a text that was cut into symbols.
use Rattle.std.specs.Prelude.{◌≡◌, ℕ, ◌+◌, ◌≤◌, true, List, [], ◌∷◌, map, length, slice_range}
use Rattle.pc_syntax.specs.Words.{is_comment}
use Rattle.pc_lex.specs.declared.symbol.Span.{Span}
use Rattle.pc_lex.specs.declared.symbol.Lexed.{Lexed}
use Rattle.pc_lex.specs.Spells.{PlainSymbol}
use Rattle.pc_lex.specs.Views.{plain_symbols}
use Rattle.pc_layout.specs.Noted.{Notes}

-- what stands in the text from one place to another
abbrev pub bytes_at : List ℕ → Span → List ℕ
bytes_at text s = slice_range text s.from s.to

-- the comments directly before a symbol, as they are written
abbrev pub notes_before : List ℕ → PlainSymbol → Notes
notes_before text s = map (bytes_at text) s.notes

-- the same for each symbol
abbrev pub symbol_notes : List ℕ → List PlainSymbol → List Notes
symbol_notes text ss = map (notes_before text) ss

-- the same for the symbols of a text that was lexed
abbrev pub notes_of_lexed : Lexed → List Notes
notes_of_lexed lexed = symbol_notes lexed.text.now (plain_symbols lexed.symbols.items)

-- how many comments stand before symbols, and after the last one
unfoldable pub comments_in : List PlainSymbol → List Span → ℕ
comments_in [] tail = length tail
comments_in (s ∷ ss) tail = length s.notes + comments_in ss tail

-- the span is that of a comment of the text
pub record IsNote (text : List ℕ) (n : Span) : Type 0 where
  pub ordered : n.from ≤ n.to
  pub within : n.to ≤ length text
  pub comment : is_comment (bytes_at text n) ≡ true
