-- How the symbols of a text are put together from those of its parts: lemmas.
use Rattle.std.specs.Prelude.{◌≡◌, ℕ, ◌+◌, List, [], ◌∷◌, slice_range, length}
use Rattle.std.proofs.Common.{refl}
use Rattle.pc_lex.specs.declared.symbol.Span.{Span}
use Rattle.pc_lex.specs.declared.symbol.SymbolKind.{SymbolKind}
use Rattle.pc_lex.specs.declared.front.Front.TheVariants.{Symbol}
use Rattle.pc_lex.specs.Spells.{PlainSymbol, front_at, Blanks, Gap, IsSymbol, Leads, SpellsFrom}

-- the symbol with this kind and length at a place, with these comments before it
abbrev pub symbol_at : List ℕ → ℕ → SymbolKind → ℕ → List Span → PlainSymbol
symbol_at text at kind len notes = record { kind = kind; spelling = slice_range text at (at + len); span = record { from = at; to = at + len }; notes = notes }

-- a symbol that stands there is one of the text
pub symbol_at-is : (text : List ℕ) (at : ℕ) (kind : SymbolKind) (len : ℕ) (notes : List Span) → front_at text at ≡ Symbol kind len → IsSymbol text (symbol_at text at kind len notes)
symbol_at-is text at kind len notes e = record { len = len; stands = e; ends = refl; written = refl }

-- white space and comments, then a symbol, and then the rest
pub SpellsFrom-cons : (text : List ℕ) (from : ℕ) (s : PlainSymbol) (ss : List PlainSymbol) (tail : List Span) → Gap text from s.span.from s.notes → IsSymbol text s → SpellsFrom text s.span.to ss tail → SpellsFrom text from (s ∷ ss) tail
unfolding Leads
SpellsFrom-cons text from s ss tail gap is rest = record { last = rest.last; leads = (gap, is, rest.leads); rests = rest.rests }

-- white space alone, then a symbol of one byte or more, and then the rest
pub SpellsFrom-symbol : (text : List ℕ) (from at : ℕ) (kind : SymbolKind) (len : ℕ) (ss : List PlainSymbol) (tail : List Span) → Blanks text from at → front_at text at ≡ Symbol kind len
    → SpellsFrom text (at + len) ss tail → SpellsFrom text from (symbol_at text at kind len [] ∷ ss) tail
unfolding Gap
SpellsFrom-symbol text from at kind len ss tail blanks e rest = SpellsFrom-cons text from (symbol_at text at kind len []) ss tail blanks (symbol_at-is text at kind len [] e) rest

-- the end: white space and comments alone
pub SpellsFrom-end : (text : List ℕ) (from : ℕ) (tail : List Span) → Gap text from (length text) tail → SpellsFrom text from [] tail
unfolding Leads
SpellsFrom-end text from tail gap = record { last = from; leads = refl; rests = gap }
