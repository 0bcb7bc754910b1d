-- What a command answers, and the session that it leaves.
use Rattle.std.specs.Prelude.{◌≡◌, ℕ, List, [], Result, Ok, Err}
use Rattle.pc_syntax.specs.Plain.{Plain}
use Rattle.pc_pretty.specs.Printed.{printed}
use Rattle.pc_views.specs.Limit.{limited}
use Rattle.pc_views.specs.TreeView.{tree_view}
use Rattle.pc_decl.specs.DeclsText.{decls_text}
use Rattle.pc_decl.specs.ErrorsText.{errors_text}
use Rattle.pc_command.specs.declared.refusal.Refusal.{Refusal}
use Rattle.pc_command.specs.declared.refusal.Refusal.TheVariants.{NothingToUndo, NothingToRedo, NoMemory}
use Rattle.pc_command.specs.declared.command.ViewName.{ViewName}
use Rattle.pc_command.specs.declared.command.ViewName.TheVariants.{Syntax, Nodes, Decls, Errors}
use Rattle.pc_session.specs.declared.accepted.Accepted.{Accepted}
use Rattle.pc_session.specs.declared.made.Made.{Made}
use Rattle.pc_session.specs.PlainSession.{PlainSession, with_trees}
use Rattle.pc_session.specs.Trees.{edited, Undoes}

-- An edit was accepted: it gives this program, and answers the count of steps and how many comments were dropped.
pub record Accepts (s : PlainSession) (made : Made) (answer : Accepted) (t : PlainSession) : Type 0 where
  pub leaves : t ≡ with_trees s (edited s.trees made.tree)
  pub counted : answer.count ≡ t.count
  pub dropped : answer.dropped ≡ made.dropped

-- An edit that makes this was accepted, or there was no memory and nothing changes.
abbrev pub IsEdited : PlainSession → Made → Result Accepted Refusal → PlainSession → Type 0
IsEdited s made (Ok answer) t = Accepts s made answer t
IsEdited s made (Err NoMemory) t = t ≡ s
IsEdited s made (Err _) t = ⊥

-- An edit, by what it makes of the program: that is the session's now, or it is refused and nothing changes.
abbrev pub Edits : (Plain → Result Made Refusal → Type 0) → PlainSession → Result Accepted Refusal → PlainSession → Type 0
Edits makes s (Ok answer) t = (made : Made) × makes s.trees.tree (Ok made) × Accepts s made answer t
Edits makes s (Err refusal) t = makes s.trees.tree (Err refusal) × (t ≡ s)

-- Undo: the last edit is undone, or there is none.
abbrev pub IsUndone : PlainSession → Result ℕ Refusal → PlainSession → Type 0
IsUndone s (Ok count) t = Undoes s.trees t.trees × (t ≡ with_trees s t.trees) × (count ≡ t.count)
IsUndone s (Err NothingToUndo) t = (s.trees.earlier ≡ []) × (t ≡ s)
IsUndone s (Err _) t = ⊥

-- Redo: the edit that was undone last is made again, or there is none.
abbrev pub IsRedone : PlainSession → Result ℕ Refusal → PlainSession → Type 0
IsRedone s (Ok count) t = Undoes t.trees s.trees × (t ≡ with_trees s t.trees) × (count ≡ t.count)
IsRedone s (Err NothingToRedo) t = (s.trees.undone ≡ []) × (t ≡ s)
IsRedone s (Err _) t = ⊥

-- The text of a view.
abbrev pub shown : ViewName → PlainSession → List ℕ
shown Syntax s = printed s.trees.tree
shown Nodes s = tree_view s.trees.tree
shown Decls s = limited (decls_text s.trees.tree)
shown Errors s = limited (errors_text s.trees.tree)
