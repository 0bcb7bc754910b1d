-- How a run of the reading machine ends in the code, and what is answered then.
use Rattle.std.specs.Prelude.{◌≡◌, ◌⊎◌, ℕ, ◌+◌, ◌<◌, ◌≤◌, nat_le, if◌then◌else◌, List, length, Result, Ok, Err}
use Rattle.pc_syntax.specs.declared.class.Class.{Class}
use Rattle.pc_syntax.specs.Plain.{Plain}
use Rattle.pc_syntax.specs.WellFormed.{depth_of, size_of, depth_limit, size_limit}
use Rattle.pc_syntax.specs.Measured.{level_count, node_count}
use Rattle.pc_lex.specs.declared.symbol.Lexed.{Lexed}
use Rattle.pc_lex.specs.Spells.{PlainSymbol}
use Rattle.pc_lex.specs.Views.{syms, plain_symbols}
use Rattle.pc_layout.specs.Noted.{noted_tree, notes_of}
use Rattle.pc_parse.specs.declared.reading.Reading.{Reading}
use Rattle.pc_parse.specs.declared.error.ParseError.{ParseError}
use Rattle.pc_parse.specs.declared.reading.Run.{Run}
use Rattle.pc_parse.specs.declared.reading.End.{End}
use Rattle.pc_parse.specs.declared.reading.End.TheVariants.{Made, Refused, NoMemory}
use Rattle.pc_parse.specs.declared.error.ParseError.TheVariants as error
use Rattle.pc_parse.specs.declared.error.Unread.{Unread}
use Rattle.pc_parse.specs.declared.error.Unread.TheVariants as unread
use Rattle.pc_parse.specs.Rows.{cut}
use Rattle.pc_parse.specs.Comments.{notes_of_lexed, comments_in}
use Rattle.pc_parse.specs.Reading.{ReadsBare}
use Rattle.pc_parse.specs.Answers.{IsWithin, IsUnfit}

-- the tree is the only one of the class without notes that has the symbols
pub record IsFound (c : Class) (ss : List PlainSymbol) (t : Plain) : Type 0 where
  pub reads : ReadsBare c t (syms ss)
  pub only : (u : Plain) → ReadsBare c u (syms ss) → t ≡ u

-- a run that took so many symbols ends with what is kept of the one tree that has them all, or before the symbol at
-- which no tree has them
abbrev pub EndsAt : Class → List PlainSymbol → ℕ → End → Type 0
EndsAt c ss n (Made kept) = (t : Plain) × IsFound c ss t × (kept ≡ cut t) × (n ≡ length ss)
EndsAt c ss n Refused = IsUnfit c ss (n + 1)
EndsAt c ss n NoMemory = Unit {0}

pub record Ends (c : Class) (ss : List PlainSymbol) (run : Run) : Type 0 where
  pub within : run.taken ≤ length ss
  pub ends : EndsAt c ss run.taken run.end

-- from what is kept of a tree it is told whether the tree is within the limits
abbrev pub Tells : Plain → Result Plain Unread → Type 0
Tells t (Ok u) = (u ≡ t) × IsWithin t
Tells t (Err (unread.NotFit k)) = ⊥
Tells t (Err (unread.Over d n)) = ((depth_limit < depth_of t) ⊎ (size_limit < size_of t)) × (d ≡ level_count t) × (n ≡ node_count t)
Tells t (Err unread.NoMemory) = ⊥

-- the first limit that a tree with these numbers is over
abbrev pub FirstLimit : Unread → ParseError → Type 0
FirstLimit (unread.NotFit k) e = e ≡ error.NotFit k
FirstLimit (unread.Over d n) e = e ≡ (if nat_le d depth_limit then error.TooLarge n else error.TooDeep d)
FirstLimit unread.NoMemory e = e ≡ error.NoMemory

-- the tree has its notes, and the comments that it doesn't keep are counted
pub record IsNoted (t : Plain) (lexed : Lexed) (r : Reading) : Type 0 where
  pub tree : r.tree ≡ noted_tree t (notes_of_lexed lexed)
  pub dropped : r.dropped + notes_of r.tree ≡ comments_in (plain_symbols lexed.symbols.items) lexed.tail.items
