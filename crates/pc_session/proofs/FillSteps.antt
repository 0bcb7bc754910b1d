-- What is answered to a template or a text that is put in the place of a node.
use Rattle.std.proofs.Common.{◌≡◌, Bool, true, false, ℕ, List, Option, Some, None, Bor, Ok, Err, refl}
use Rattle.std.specs.Prelude.{Result, MatchBool}
use Rattle.std.specs.Option.{IsSome, option_copied}
use Rattle.pc_syntax.specs.declared.error.EditError.{EditError}
use Rattle.pc_syntax.specs.declared.error.EditError.TheVariants as edit
use Rattle.pc_syntax.specs.Plain.{Plain}
use Rattle.pc_syntax.specs.Places.{at}
use Rattle.pc_syntax.specs.Edits.{gives_way, PutAnswers}
use Rattle.pc_command.specs.declared.refusal.Refusal.{Refusal}
use Rattle.pc_command.specs.declared.refusal.Refusal.TheVariants as refusal
use Rattle.pc_session.specs.declared.accepted.Accepted.{Accepted}
use Rattle.pc_session.specs.declared.made.Made.{Made}
use Rattle.pc_session.specs.PlainSession.{PlainSession}
use Rattle.pc_session.specs.Commands.{IsEdited, Edits}
use Rattle.pc_session.specs.Making.{refused}
use Rattle.pc_session.specs.Editing.{IsTemplate, Puts}

abbrev refusal_of : EditError → Result Plain EditError
refusal_of e = Err e

no_place : (b : Bool) → MatchBool b ⊥ (refusal_of edit.NoPlace ≡ refusal_of edit.NotFit) → ⊥
no_place true h = h
no_place false h = cc

-- An edit that makes this was done, or there was no memory for it.
pub Edits-done : (makes : Plain → Result Made Refusal → Type 0) (s : PlainSession) (made : Made) (r : Result Accepted Refusal) (t : PlainSession) →
    makes s.trees.tree (Ok made) → makes s.trees.tree (Err refusal.NoMemory) → IsEdited s made r t → Edits makes s r t
Edits-done makes s made (Ok answer) t is free done = (made, is, done)
Edits-done makes s made (Err refusal.NoMemory) t is free done = (free, done)
Edits-done makes s made (Err _) t is free never = absurd never

-- a node that was found
pub found : {T : Type 0} (o : Option (Bor T)) → IsSome o → IsSome (option_copied o)
found None is = cc
found (Some node) is = refl

-- there is a node at the path, and putting the template of the name there answers so
module _ (path name : List ℕ) (p piece : Plain) (there : IsSome (at path p)) (template : IsTemplate name piece) where
  no_node : (node : Option Plain) → at path p ≡ node → PutAnswers p path piece (Err edit.NoPlace) → ⊥
  no_node None none answers = let some = rw none at there in cc
  no_node (Some node) some answers = no_place (gives_way path node.kind piece.kind) (rw some at answers)

  pub Puts-refused : (e : EditError) → PutAnswers p path piece (Err e) → Puts path name p (Err (refused e))
  Puts-refused edit.NoPlace answers = absurd (no_node _ refl answers)
  Puts-refused edit.NotFit answers = (refl, (there, (piece, template, answers)))
  Puts-refused (edit.TooDeep d) answers = (there, (piece, template, answers))
  Puts-refused (edit.TooLarge n) answers = (there, (piece, template, answers))
  Puts-refused edit.NoMemory answers = tt
