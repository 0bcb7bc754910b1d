-- A printed tree reads back as the same tree.
use Rattle.std.specs.Prelude.{◌≡◌, List, [], Some, Result}
use Rattle.pc_syntax.specs.declared.sort.Sort.{Sort}
use Rattle.pc_syntax.specs.Plain.{Plain}
use Rattle.pc_syntax.specs.Sorts.{sort_of}
use Rattle.pc_syntax.specs.WellFormed.{IsWellFormed, IsProper}
use Rattle.pc_lex.specs.Spells.{PlainSymbol, Spells}
use Rattle.pc_layout.specs.Noted.{notes_of}
use Rattle.pc_parse.specs.declared.reading.Reading.{Reading}
use Rattle.pc_parse.specs.declared.error.ParseError.{ParseError}
use Rattle.pc_parse.specs.Reading.{class_of}
use Rattle.pc_parse.specs.Comments.{comments_in}
use Rattle.pc_parse.specs.Answers.{IsRead, Answered}
use Rattle.pc_pretty.specs.Laws.{IsSame}
use Rattle.pc_pretty.specs.Printed.{printed}

-- the printed text of a tree of the sort spells symbols, with no comment after the last one; the tree is the one of the
-- sort that these symbols and their comments have, and bears each of the comments. Where it is within the limits, nothing
-- else may be answered to them, but want of memory
pub record IsPrinted (s : Sort) (t : Plain) : Type 0 where
  pub symbols : List PlainSymbol
  pub spells : Spells (printed t) symbols []
  pub read : IsRead (class_of s) (printed t) symbols t
  pub kept : notes_of t ≡ comments_in symbols []
  pub answered : IsProper t → (answer : Result Reading ParseError) → Answered (class_of s) (printed t) symbols [] answer → IsSame t answer

-- so it is with every well-formed tree that has a sort
abbrev pub PrintedReadsBack : Type 0
PrintedReadsBack = (s : Sort) (t : Plain) → sort_of t.kind ≡ Some s → IsWellFormed t → IsPrinted s t
