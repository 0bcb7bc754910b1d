-- What reading answers.
use Rattle.std.specs.Prelude.{◌≡◌, ◌⊎◌, ℕ, ◌+◌, ◌<◌, ◌≤◌, List, length, take, Option, Some, None, Result, Ok, Err}
use Rattle.pc_syntax.specs.declared.class.Class.{Class}
use Rattle.pc_syntax.specs.Plain.{Plain}
use Rattle.pc_syntax.specs.WellFormed.{depth_of, size_of, depth_limit, size_limit}
use Rattle.pc_syntax.specs.Measured.{level_count, node_count}
use Rattle.pc_lex.specs.declared.symbol.Span.{Span}
use Rattle.pc_lex.specs.Spells.{PlainSymbol}
use Rattle.pc_lex.specs.Views.{syms}
use Rattle.pc_layout.specs.Noted.{HasNotes, notes_of}
use Rattle.pc_parse.specs.Comments.{symbol_notes, comments_in}
use Rattle.pc_parse.specs.Reading.{Reads}
use Rattle.pc_parse.specs.Partial.{Begins}
use Rattle.pc_parse.specs.declared.reading.Reading.{Reading}
use Rattle.pc_parse.specs.declared.error.ParseError.{ParseError}
use Rattle.pc_parse.specs.declared.error.ParseError.TheVariants.{NotFit, TooDeep, TooLarge, NoMemory}
use Rattle.pc_parse.specs.declared.error.Unread.{Unread}
use Rattle.pc_parse.specs.declared.error.Unread.TheVariants as unread

-- the tree has no more levels and no more nodes than the limits
pub record IsWithin (t : Plain) : Type 0 where
  pub shallow : depth_of t ≤ depth_limit
  pub small : size_of t ≤ size_limit

-- a tree of the class that has the symbols of the text, and of their notes those that its nodes bear
pub record HasText (c : Class) (text : List ℕ) (ss : List PlainSymbol) (t : Plain) : Type 0 where
  pub reads : Reads c t (syms ss)
  pub noted : HasNotes t (symbol_notes text ss)

-- the tree is the only one of the class that has the text
pub record IsRead (c : Class) (text : List ℕ) (ss : List PlainSymbol) (t : Plain) : Type 0 where
  pub has_text : HasText c text ss t
  pub only : (u : Plain) → HasText c text ss u → t ≡ u

-- no tree has the symbols; the number is the least k such that the first k of them begin no text of the class, and one more than there are where all of them do
pub record IsUnfit (c : Class) (ss : List PlainSymbol) (k : ℕ) : Type 0 where
  pub none : (u : Plain) → ¬ Reads c u (syms ss)
  pub positive : 0 < k
  pub within : k ≤ length ss + 1
  pub begins : (j : ℕ) → j < k → Begins c (take j (syms ss))
  pub least : k ≤ length ss → ¬ Begins c (take k (syms ss))

-- the one tree of the text is deeper than the limit, and has so many levels; a number over the last one of its type is that
pub record IsTooDeep (c : Class) (text : List ℕ) (ss : List PlainSymbol) (d : ℕ) : Type 0 where
  pub tree : Plain
  pub read : IsRead c text ss tree
  pub deep : depth_limit < depth_of tree
  pub number : d ≡ level_count tree

-- the one tree of the text isn't too deep but has more nodes than the limit
pub record IsTooLarge (c : Class) (text : List ℕ) (ss : List PlainSymbol) (n : ℕ) : Type 0 where
  pub tree : Plain
  pub read : IsRead c text ss tree
  pub shallow : depth_of tree ≤ depth_limit
  pub large : size_limit < size_of tree
  pub number : n ≡ node_count tree

-- what may be answered to the symbols of a text and the comments after the last one; want of memory may always come.
-- The comments that the tree doesn't keep are counted.
abbrev pub Answered : Class → List ℕ → List PlainSymbol → List Span → Result Reading ParseError → Type 0
Answered c text ss tail (Ok r) = IsRead c text ss r.tree × IsWithin r.tree × (r.dropped + notes_of r.tree ≡ comments_in ss tail)
Answered c text ss tail (Err (NotFit k)) = IsUnfit c ss k
Answered c text ss tail (Err (TooDeep d)) = IsTooDeep c text ss d
Answered c text ss tail (Err (TooLarge n)) = IsTooLarge c text ss n
Answered c text ss tail (Err NoMemory) = Unit {0}

-- the one tree of the text is over a limit, and has so many levels and so many nodes; a number over the last one of its type is that
pub record IsMeasured (c : Class) (text : List ℕ) (ss : List PlainSymbol) (d n : ℕ) : Type 0 where
  pub tree : Plain
  pub read : IsRead c text ss tree
  pub over : (depth_limit < depth_of tree) ⊎ (size_limit < size_of tree)
  pub levels : d ≡ level_count tree
  pub nodes : n ≡ node_count tree

-- the same as `Answered`, with both numbers of a tree that is over a limit
abbrev pub ReadOrMeasured : Class → List ℕ → List PlainSymbol → List Span → Result Reading Unread → Type 0
ReadOrMeasured c text ss tail (Ok r) = Answered c text ss tail (Ok r)
ReadOrMeasured c text ss tail (Err (unread.NotFit k)) = IsUnfit c ss k
ReadOrMeasured c text ss tail (Err (unread.Over d n)) = IsMeasured c text ss d n
ReadOrMeasured c text ss tail (Err unread.NoMemory) = Unit {0}

-- the depth of the one tree of the text, limits aside; none where no tree has the symbols
abbrev pub Deepens : Class → List ℕ → List PlainSymbol → Option ℕ → Type 0
Deepens c text ss None = (u : Plain) → ¬ Reads c u (syms ss)
Deepens c text ss (Some d) = (t : Plain) × IsRead c text ss t × (d ≡ level_count t)
