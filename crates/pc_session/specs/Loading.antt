-- What a text is read as, limits aside, and why it is read as nothing.
use Rattle.std.specs.Prelude.{◌≡◌, ◌≢◌, ℕ, ◌+◌, List}
use Rattle.pc_syntax.specs.declared.class.Class.{Class}
use Rattle.pc_syntax.specs.Plain.{Plain}
use Rattle.pc_layout.specs.Noted.{notes_of}
use Rattle.pc_lex.specs.declared.error.LexError.{LexError}
use Rattle.pc_lex.specs.declared.error.LexError.TheVariants.{NoMemory}
use Rattle.pc_lex.specs.declared.symbol.Span.{Span}
use Rattle.pc_lex.specs.Spells.{PlainSymbol, Spells, FirstFault}
use Rattle.pc_parse.specs.Comments.{comments_in}
use Rattle.pc_parse.specs.Answers.{IsRead, IsUnfit}

-- The text spells symbols.
pub record IsSpelled (text : List ℕ) : Type 0 where
  pub symbols : List PlainSymbol
  pub tail : List Span
  pub spells : Spells text symbols tail

-- The text spells none: this is its first fault.
pub record IsFaulty (text : List ℕ) (fault : LexError) : Type 0 where
  pub first : FirstFault text fault
  pub lexical : fault ≢ NoMemory

-- The tree is the one of the class that the text writes, whatever its levels and nodes.
pub record IsWritten (c : Class) (text : List ℕ) (tree : Plain) : Type 0 where
  pub symbols : List PlainSymbol
  pub tail : List Span
  pub spells : Spells text symbols tail
  pub read : IsRead c text symbols tree

-- Of the comments of the text so many aren't notes of the tree.
pub record Drops (text : List ℕ) (tree : Plain) (dropped : ℕ) : Type 0 where
  pub symbols : List PlainSymbol
  pub tail : List Span
  pub spells : Spells text symbols tail
  pub counted : dropped + notes_of tree ≡ comments_in symbols tail

-- The text spells symbols, but no tree of the class has them. The number is the least k such that the first k of them begin no text of the class, or one more than there are.
pub record IsMisfit (c : Class) (text : List ℕ) (number : ℕ) : Type 0 where
  pub symbols : List PlainSymbol
  pub tail : List Span
  pub spells : Spells text symbols tail
  pub unfit : IsUnfit c symbols number
