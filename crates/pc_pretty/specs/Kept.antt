-- What a text keeps.
use Rattle.std.specs.Prelude.{◌≡◌, ℕ, List, Option}
use Rattle.pc_syntax.specs.Plain.{Plain}
use Rattle.pc_lex.specs.declared.symbol.Span.{Span}
use Rattle.pc_pretty.specs.Printed.{printed}
use Rattle.pc_pretty.specs.Preorder.{text_spans}

-- the printed text of the tree, and the spans of its nodes in it
pub record IsText (bytes : List ℕ) (spans : List (Option Span)) (t : Plain) : Type 0 where
  pub bytes_are : bytes ≡ printed t
  pub spans_are : spans ≡ text_spans t
