-- What is printed spells the symbols and the notes of the tree, and reads back as the same tree.
use Rattle.std.specs.Prelude.{◌≡◌, true, ℕ, List, [], Result, Ok, Err}
use Rattle.pc_syntax.specs.declared.class.Class.{Class}
use Rattle.pc_syntax.specs.Plain.{Plain}
use Rattle.pc_syntax.specs.Classes.{has}
use Rattle.pc_syntax.specs.Symbols.{Sym, symbols_of}
use Rattle.pc_lex.specs.declared.symbol.Span.{Span}
use Rattle.pc_lex.specs.Spells.{PlainSymbol, SpellsFrom, Spells}
use Rattle.pc_lex.specs.Views.{syms}
use Rattle.pc_layout.specs.Noted.{Notes}
use Rattle.pc_parse.specs.declared.reading.Reading.{Reading}
use Rattle.pc_parse.specs.declared.error.ParseError.{ParseError}
use Rattle.pc_parse.specs.declared.error.ParseError.TheVariants.{NotFit, TooDeep, TooLarge, NoMemory}
use Rattle.pc_parse.specs.Answers.{Answered}
use Rattle.pc_parse.specs.Comments.{symbol_notes}
use Rattle.pc_pretty.specs.Notes.{tree_notes}

-- from a place on, a text spells symbols that a parser sees as these, with these comments before each, and none after the last
pub record SpelledFrom (text : List ℕ) (from : ℕ) (ys : List Sym) (nss : List Notes) : Type 0 where
  pub symbols : List PlainSymbol
  pub spells : SpellsFrom text from symbols []
  pub seen : syms symbols ≡ ys
  pub noted : symbol_notes text symbols ≡ nss

-- the whole text spells the symbols and the notes of the tree
abbrev pub Spelled : List ℕ → Plain → Type 0
Spelled text t = SpelledFrom text 0 (symbols_of t) (tree_notes t)

-- the answer is the tree with all its notes, unless memory is wanted
abbrev pub IsSame : Plain → Result Reading ParseError → Type 0
IsSame t (Ok r) = (r.tree ≡ t) × (r.dropped ≡ 0)
IsSame t (Err (NotFit k)) = ⊥
IsSame t (Err (TooDeep d)) = ⊥
IsSame t (Err (TooLarge n)) = ⊥
IsSame t (Err NoMemory) = Unit {0}

-- the text reads back as the tree: whatever may be answered to what it spells, for a class of the tree, is the tree
abbrev pub ReadsBack : List ℕ → Plain → Type 0
ReadsBack text t =
    (c : Class) (ss : List PlainSymbol) (tail : List Span) (answer : Result Reading ParseError) → has c t.kind ≡ true → Spells text ss tail → Answered c text ss tail answer →
    IsSame t answer
