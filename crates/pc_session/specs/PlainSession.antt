-- What a session is.
use Rattle.std.specs.Prelude.{ℕ, List, [], refl}
use Rattle.std.specs.Coded.{Coded, code_by, coded×, coded_ℕ}
use Rattle.pc_syntax.specs.declared.kind.Kind.TheVariants.{Hole}
use Rattle.pc_syntax.specs.declared.sort.Sort.TheVariants as sort
use Rattle.pc_syntax.specs.Plain.{Plain, node}
use Rattle.pc_session.specs.Trees.{Trees, Histories, trees_code}

-- The program as a tree, with those that undo and redo give, and the count of the steps made so far.
pub record PlainSession : Type 0 where
  pub trees : Trees
  pub count : ℕ

-- A session now, and as it was before the last command that may change it.
pub record Sessions : Type 0 where
  pub now : PlainSession
  pub before : PlainSession

-- The session with these trees and this count: whatever a session has besides joins here.
abbrev pub session_of : Trees → ℕ → PlainSession
session_of trees count = record { trees = trees; count = count }

-- The session at the start: its program is still to be written, and no step was made.
abbrev pub opening : PlainSession
opening = session_of (record { earlier = []; tree = node (Hole sort.Program) [] [] []; undone = [] }) 0

-- The count of steps once an edit, undo or redo of a session has put the second program in the place of the first: so far it is kept.
abbrev pub count_after : Plain → Plain → PlainSession → ℕ
count_after old new s = s.count

-- A session after an edit, undo or redo that leaves these trees.
abbrev pub with_trees : PlainSession → Trees → PlainSession
with_trees s trees = session_of trees (count_after s.trees.tree trees.tree s)

-- The watched views whose text a command has changed, from the session before and after it: so far nothing is watched.
abbrev pub watched : PlainSession → PlainSession → List ℕ
watched s t = []

-- The two sessions of a history, with the count of each.
abbrev pub sessions_of : Histories → ℕ → ℕ → Sessions
sessions_of trees count before = record { now = session_of trees.now count; before = session_of trees.before before }

-- codes, by which a proof tells two of them apart
abbrev pub session_code : Coded PlainSession
session_code = code_by (Trees × ℕ) (coded× trees_code coded_ℕ) (λ s. (s.trees, s.count)) (λ p. record { trees = p.0; count = p.1 }) (λ _. refl)

abbrev pub sessions_code : Coded Sessions
sessions_code = code_by (PlainSession × PlainSession) (coded× session_code session_code) (λ s. (s.now, s.before)) (λ p. record { now = p.0; before = p.1 }) (λ _. refl)
