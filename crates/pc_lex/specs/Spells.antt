-- What symbols a text spells, and what its first fault is.
use Rattle.std.specs.Prelude.{◌≡◌, ℕ, ◌+◌, ◌<◌, ◌≤◌, List, [], ◌∷◌, drop, length, slice_range}
use Rattle.pc_lex.specs.declared.error.LexError.{LexError}
use Rattle.pc_lex.specs.declared.error.LexError.TheVariants.{BadByte, OpenComment, OpenString, EmptyString, LongNumeral, NoMemory}
use Rattle.pc_lex.specs.declared.symbol.Span.{Span}
use Rattle.pc_lex.specs.declared.symbol.SymbolKind.{SymbolKind}
use Rattle.pc_lex.specs.declared.front.Front.{Front}
use Rattle.pc_lex.specs.declared.front.Front.TheVariants.{Blank, Comment, Symbol, Fault}
use Rattle.pc_lex.specs.Fronts.{front}

-- a symbol as a plain value: what it is, how it is written, where it stands, and the comments before it
pub record PlainSymbol : Type 0 where
  pub kind : SymbolKind
  pub spelling : List ℕ
  pub span : Span
  pub notes : List Span

-- what stands at a place of the text, in bytes from 0
abbrev pub front_at : List ℕ → ℕ → Front
front_at text at = front (drop at text)

-- white space alone stands from one place to another
pub record Blanks (text : List ℕ) (from to : ℕ) : Type 0 where
  pub ordered : from ≤ to
  pub blank : (at : ℕ) → from ≤ at → at < to → front_at text at ≡ Blank

-- the span is that of a comment
pub record IsComment (text : List ℕ) (note : Span) : Type 0 where
  pub len : ℕ
  pub stands : front_at text note.from ≡ Comment len
  pub ends : note.to ≡ note.from + len

-- white space and these comments stand from one place to another, and nothing else
unfoldable pub Gap : List ℕ → ℕ → ℕ → List Span → Type 0
Gap text from to [] = Blanks text from to
Gap text from to (n ∷ ns) = Blanks text from n.from × IsComment text n × Gap text n.to to ns

-- the symbol stands in the text, where its span says, and is written as the text has it there
pub record IsSymbol (text : List ℕ) (s : PlainSymbol) : Type 0 where
  pub len : ℕ
  pub stands : front_at text s.span.from ≡ Symbol s.kind len
  pub ends : s.span.to ≡ s.span.from + len
  pub written : s.spelling ≡ slice_range text s.span.from s.span.to

-- from one place to another stand these symbols, each after white space and its comments
unfoldable pub Leads : List ℕ → ℕ → List PlainSymbol → ℕ → Type 0
Leads text from [] to = from ≡ to
Leads text from (s ∷ ss) to = Gap text from s.span.from s.notes × IsSymbol text s × Leads text s.span.to ss to

-- from a place on, the text has these symbols, and these comments after the last one
pub record SpellsFrom (text : List ℕ) (from : ℕ) (symbols : List PlainSymbol) (tail : List Span) : Type 0 where
  pub last : ℕ
  pub leads : Leads text from symbols last
  pub rests : Gap text last (length text) tail

-- these are all the symbols of the text, and the comments after the last one
abbrev pub Spells : List ℕ → List PlainSymbol → List Span → Type 0
Spells text symbols tail = SpellsFrom text 0 symbols tail

-- the fault, where so many more bytes stand before it
abbrev pub moved : ℕ → LexError → LexError
moved n (BadByte k) = BadByte (n + k)
moved n (OpenComment k) = OpenComment (n + k)
moved n (OpenString k) = OpenString (n + k)
moved n (EmptyString k) = EmptyString (n + k)
moved n (LongNumeral k) = LongNumeral (n + k)
moved n NoMemory = NoMemory

-- the fault comes first in the text: only symbols, white space and comments stand before it
pub record FirstFault (text : List ℕ) (fault : LexError) : Type 0 where
  pub before : List PlainSymbol
  pub last : ℕ
  pub leads : Leads text 0 before last
  pub notes : List Span
  pub at : ℕ
  pub gap : Gap text last at notes
  pub inside : LexError
  pub stands : front_at text at ≡ Fault inside
  pub is : fault ≡ moved at inside
