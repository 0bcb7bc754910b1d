-- What is answered where a text is filled in.
use Rattle.std.proofs.Common.{◌≡◌, ℕ, List, Result, Ok, Err, subst}
use Rattle.pc_command.specs.declared.command.Command.TheVariants.{Fill}
use Rattle.pc_command.specs.declared.refusal.Refusal.{Refusal}
use Rattle.pc_session.specs.declared.accepted.Accepted.{Accepted}
use Rattle.pc_session.specs.PlainSession.{PlainSession}
use Rattle.pc_session.specs.Editing.{Fills}
use Rattle.pc_session.specs.Commands.{Edits}
use Rattle.pc_transcript.specs.Obeying.{edited, Does}

pub Does-fill : (path text bytes : List ℕ) (s t : PlainSession) (r : Result Accepted Refusal) → bytes ≡ text → Edits (Fills path bytes) s r t → Does (Fill path text) s (edited r) t
Does-fill path text bytes s t (Ok accepted) same edits = subst (λ b. Edits (Fills path b) s (Ok accepted) t) same edits
Does-fill path text bytes s t (Err refusal) same edits = subst (λ b. Edits (Fills path b) s (Err refusal) t) same edits
