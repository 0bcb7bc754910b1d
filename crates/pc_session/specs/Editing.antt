-- What an edit makes of a program: the new one and the number of the text's comments that it drops, or why there is none. The
-- first test that fails refuses it.
use Rattle.std.specs.Prelude.{◌≡◌, ◌<◌, ◌≤◌, ◌⊎◌, ℕ, Bool, true, false, List, Option, Some, None, Result, Ok, Err}
use Rattle.std.specs.Option.{IsSome, option_and_then, option_map_or}
use Rattle.pc_syntax.specs.declared.class.Class.{Class}
use Rattle.pc_syntax.specs.declared.class.Class.TheVariants as class
use Rattle.pc_syntax.specs.declared.sort.Sort.{Sort}
use Rattle.pc_syntax.specs.declared.error.EditError.{EditError}
use Rattle.pc_syntax.specs.declared.error.EditError.TheVariants as edit
use Rattle.pc_syntax.specs.Plain.{Plain}
use Rattle.pc_syntax.specs.WellFormed.{depth_of, size_of, depth_limit, size_limit}
use Rattle.pc_syntax.specs.Measured.{level_count, node_count}
use Rattle.pc_syntax.specs.Places.{at, put}
use Rattle.pc_syntax.specs.Edits.{PutAnswers, has_room, AddAnswers, cut}
use Rattle.pc_syntax.specs.Sorts.{sort_of}
use Rattle.pc_syntax.specs.Templates.{template_of}
use Rattle.pc_parse.specs.Answers.{IsWithin}
use Rattle.pc_parse.specs.Reading.{class_of}
use Rattle.pc_pretty.specs.declared.range.Range.{Range}
use Rattle.pc_pretty.specs.Printed.{printed}
use Rattle.pc_pretty.specs.Ranges.{range_span}
use Rattle.pc_partial.specs.Retyping.{IsNewText}
use Rattle.pc_command.specs.declared.refusal.Refusal.{Refusal}
use Rattle.pc_command.specs.declared.refusal.Refusal.TheVariants.{BadRange, NoPlace, NoTemplate, Lex, NotFit, TooDeep, TooLarge, NoMemory}
use Rattle.pc_session.specs.declared.made.Made.{Made}
use Rattle.pc_session.specs.Loading.{IsSpelled, IsFaulty, IsWritten, Drops, IsMisfit}

-- Where such a program would be the new one, it is over a limit; the number tells its levels or else its nodes.
abbrev pub IsOver : Plain → Result Plain EditError → Type 0
IsOver tree (Err (edit.TooDeep depth)) = (depth_limit < depth_of tree) × (depth ≡ level_count tree)
IsOver tree (Err (edit.TooLarge size)) = (depth_of tree ≤ depth_limit) × (size_limit < size_of tree) × (size ≡ node_count tree)
IsOver tree _ = ⊥

-- The text writes a program that is over a limit.
abbrev pub WritesOver : List ℕ → EditError → Type 0
WritesOver text error = (tree : Plain) × IsWritten class.Program text tree × IsOver tree (Err error)

-- Writing the whole program anew, as a text.
abbrev pub Writes : List ℕ → Plain → Result Made Refusal → Type 0
Writes text p (Ok made) = IsWritten class.Program text made.tree × IsWithin made.tree × Drops text made.tree made.dropped
Writes text p (Err (Lex fault)) = IsFaulty text fault
Writes text p (Err (NotFit number)) = IsMisfit class.Program text number
Writes text p (Err (TooDeep depth)) = WritesOver text (edit.TooDeep depth)
Writes text p (Err (TooLarge size)) = WritesOver text (edit.TooLarge size)
Writes text p (Err NoMemory) = Unit {0}
Writes text p (Err _) = ⊥

-- The program's printed text with a text in the place of the range writes the whole program anew.
abbrev pub Rewrites : Range → List ℕ → Plain → Result Made Refusal → Type 0
Rewrites range new p result = (text : List ℕ) × IsNewText p range new text × Writes text p result

-- Putting a text in the place of a range of the program's printed text.
abbrev pub Retypes : Range → List ℕ → Plain → Result Made Refusal → Type 0
Retypes range new p (Ok made) = Rewrites range new p (Ok made)
Retypes range new p (Err BadRange) = range_span (printed p) range ≡ None
Retypes range new p (Err NoMemory) = Unit {0}
Retypes range new p (Err refusal) = Rewrites range new p (Err refusal)

-- The piece is the template of the name.
pub record IsTemplate (name : List ℕ) (piece : Plain) : Type 0 where
  pub named : template_of name ≡ Some piece

-- There is a node at the path, and putting the template of the name there answers so.
abbrev pub PutsPiece : List ℕ → List ℕ → Plain → Result Plain EditError → Type 0
PutsPiece path name p result = IsSome (at path p) × ((piece : Plain) × IsTemplate name piece × PutAnswers p path piece result)

-- Putting a template in the place of a node.
abbrev pub Puts : List ℕ → List ℕ → Plain → Result Made Refusal → Type 0
Puts path name p (Ok made) = PutsPiece path name p (Ok made.tree) × (made.dropped ≡ 0)
Puts path name p (Err NoPlace) = at path p ≡ None
Puts path name p (Err NoTemplate) = IsSome (at path p) × (template_of name ≡ None)
Puts path name p (Err (NotFit number)) = (number ≡ 0) × PutsPiece path name p (Err edit.NotFit)
Puts path name p (Err (TooDeep depth)) = PutsPiece path name p (Err (edit.TooDeep depth))
Puts path name p (Err (TooLarge size)) = PutsPiece path name p (Err (edit.TooLarge size))
Puts path name p (Err NoMemory) = Unit {0}
Puts path name p (Err _) = ⊥

-- Whether there is a list at the path that can take an element with this number, from 1.
abbrev pub takes_element : List ℕ → ℕ → Plain → Bool
takes_element path k p = option_map_or (λ node. has_room node k) (at path p) false

-- There is such a list at the path, and adding the template of the name to it answers so.
abbrev pub AddsPiece : List ℕ → ℕ → List ℕ → Plain → Result Plain EditError → Type 0
AddsPiece path k name p result = (takes_element path k p ≡ true) × ((piece : Plain) × IsTemplate name piece × AddAnswers p path k piece result)

-- Adding a template to a list, as the element with a number.
abbrev pub Adds : List ℕ → ℕ → List ℕ → Plain → Result Made Refusal → Type 0
Adds path k name p (Ok made) = AddsPiece path k name p (Ok made.tree) × (made.dropped ≡ 0)
Adds path k name p (Err NoPlace) = takes_element path k p ≡ false
Adds path k name p (Err NoTemplate) = (takes_element path k p ≡ true) × (template_of name ≡ None)
Adds path k name p (Err (NotFit number)) = (number ≡ 0) × AddsPiece path k name p (Err edit.NotFit)
Adds path k name p (Err (TooDeep depth)) = AddsPiece path k name p (Err (edit.TooDeep depth))
Adds path k name p (Err (TooLarge size)) = AddsPiece path k name p (Err (edit.TooLarge size))
Adds path k name p (Err NoMemory) = Unit {0}
Adds path k name p (Err _) = ⊥

-- Cutting a node.
abbrev pub Cuts : List ℕ → Plain → Result Made Refusal → Type 0
Cuts path p (Ok made) = IsSome (at path p) × (made.tree ≡ cut path p) × (made.dropped ≡ 0)
Cuts path p (Err NoPlace) = at path p ≡ None
Cuts path p (Err NoMemory) = Unit {0}
Cuts path p (Err _) = ⊥

-- The sort of the node at the path. There is none where that is a list, and where there is no node.
abbrev pub sort_at : List ℕ → Plain → Option Sort
sort_at path p = option_and_then (λ node. sort_of node.kind) (at path p)

-- There is a list at the path, and the text spells symbols.
pub record IsAtList (path text : List ℕ) (p : Plain) : Type 0 where
  pub place : IsSome (at path p)
  pub list : sort_at path p ≡ None
  pub spelled : IsSpelled text

-- The node at the path has a sort, and reading the text as a tree of that sort is answered so.
abbrev pub ReadsAt : (Class → Type 0) → List ℕ → Plain → Type 0
ReadsAt reads path p = (sort : Sort) × (sort_at path p ≡ Some sort) × reads (class_of sort)

-- What putting a piece of any depth and size at a path makes: one that is over the limits itself is only measured there.
abbrev pub Places : List ℕ → Plain → Plain → Result Plain EditError → Type 0
Places path piece p result = (IsWithin piece × PutAnswers p path piece result) ⊎ ((¬ IsWithin piece) × IsOver (put path p piece) result)

-- The text writes a piece of the sort of the node at the path, and putting it there is refused so.
abbrev pub WritesUnplaced : List ℕ → List ℕ → Plain → EditError → Type 0
WritesUnplaced path text p error = ReadsAt (λ c. (piece : Plain) × IsWritten c text piece × Places path piece p (Err error)) path p

-- Putting the tree that a text writes in the place of a node of its sort.
abbrev pub Fills : List ℕ → List ℕ → Plain → Result Made Refusal → Type 0
Fills path text p (Ok made) = ReadsAt (λ c. (piece : Plain) × IsWritten c text piece × Places path piece p (Ok made.tree) × Drops text piece made.dropped) path p
Fills path text p (Err NoPlace) = at path p ≡ None
Fills path text p (Err (Lex fault)) = IsSome (at path p) × IsFaulty text fault
Fills path text p (Err (NotFit number)) = ((number ≡ 0) × (IsAtList path text p ⊎ WritesUnplaced path text p edit.NotFit)) ⊎ ReadsAt (λ c. IsMisfit c text number) path p
Fills path text p (Err (TooDeep depth)) = WritesUnplaced path text p (edit.TooDeep depth)
Fills path text p (Err (TooLarge size)) = WritesUnplaced path text p (edit.TooLarge size)
Fills path text p (Err NoMemory) = Unit {0}
Fills path text p (Err _) = ⊥
