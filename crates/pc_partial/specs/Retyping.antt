-- What may be answered to a program's text with a range of it replaced.
use Rattle.std.specs.Prelude.{◌≡◌, ◌≢◌, ◌+◌, ◌≤◌, ℕ, List, length, Some, None, Result, Ok, Err}
use Rattle.pc_syntax.specs.declared.class.Class.TheVariants as class
use Rattle.pc_syntax.specs.Plain.{Plain}
use Rattle.pc_lex.specs.declared.error.LexError.{LexError}
use Rattle.pc_lex.specs.declared.error.LexError.TheVariants as lex
use Rattle.pc_lex.specs.declared.symbol.Span.{Span}
use Rattle.pc_lex.specs.Spells.{PlainSymbol, Spells, FirstFault}
use Rattle.pc_parse.specs.Answers.{Answered}
use Rattle.pc_parse.specs.declared.reading.Reading.{Reading}
use Rattle.pc_parse.specs.declared.error.ParseError.{ParseError}
use Rattle.pc_parse.specs.declared.error.ParseError.TheVariants as parse
use Rattle.pc_pretty.specs.declared.range.Range.{Range}
use Rattle.pc_pretty.specs.Printed.{printed}
use Rattle.pc_pretty.specs.Ranges.{range_span, replaced}
use Rattle.pc_partial.specs.declared.error.RetypeError.{RetypeError}
use Rattle.pc_partial.specs.declared.error.RetypeError.TheVariants.{BadRange, Lex, NotFit, TooDeep, TooLarge, NoMemory}

-- the program's text with the range replaced, where the range is in it
abbrev pub IsNewText : Plain → Range → List ℕ → List ℕ → Type 0
IsNewText t range new text = (span : Span) × (range_span (printed t) range ≡ Some span) × (text ≡ replaced (printed t) span new)

-- the new text spells symbols, and so it may be answered when they are read as a program
pub record IsRead (t : Plain) (range : Range) (new : List ℕ) (answer : Result Reading ParseError) : Type 0 where
  pub text : List ℕ
  pub is_new : IsNewText t range new text
  pub symbols : List PlainSymbol
  pub tail : List Span
  pub spells : Spells text symbols tail
  pub answered : Answered class.Program text symbols tail answer

-- the new text has a fault, and this is the first one
pub record IsFaulty (t : Plain) (range : Range) (new : List ℕ) (fault : LexError) : Type 0 where
  pub text : List ℕ
  pub is_new : IsNewText t range new text
  pub first : FirstFault text fault
  pub of_text : fault ≢ lex.NoMemory

-- what may be answered to the text of a program with a range replaced; want of memory may always come
abbrev pub Retypes : Plain → Range → List ℕ → Result Reading RetypeError → Type 0
Retypes t range new (Ok reading) = IsRead t range new (Ok reading)
Retypes t range new (Err BadRange) = range_span (printed t) range ≡ None
Retypes t range new (Err (Lex fault)) = IsFaulty t range new fault
Retypes t range new (Err (NotFit k)) = IsRead t range new (Err (parse.NotFit k))
Retypes t range new (Err (TooDeep d)) = IsRead t range new (Err (parse.TooDeep d))
Retypes t range new (Err (TooLarge n)) = IsRead t range new (Err (parse.TooLarge n))
Retypes t range new (Err NoMemory) = Unit {0}

-- the answer to a new text with this fault
abbrev pub unspelled : LexError → RetypeError
unspelled lex.NoMemory = NoMemory
unspelled fault = Lex fault

-- the answer to a new text whose symbols are refused so
abbrev pub misread : ParseError → RetypeError
misread (parse.NotFit k) = NotFit k
misread (parse.TooDeep d) = TooDeep d
misread (parse.TooLarge n) = TooLarge n
misread parse.NoMemory = NoMemory

-- at most one step of work for each symbol of the text, and none where it spells none
pub record StepsOnSymbols (text : List ℕ) (before after : ℕ) : Type 0 where
  pub spelled : (symbols : List PlainSymbol) (tail : List Span) → Spells text symbols tail → after ≤ before + length symbols
  pub unspelled : ((symbols : List PlainSymbol) (tail : List Span) → ¬ Spells text symbols tail) → after ≡ before
