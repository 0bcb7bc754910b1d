-- What a command does to a session, and what is answered to it.
use Rattle.std.specs.Prelude.{◌≡◌, ℕ, Bool, true, false, List, [], ◌++◌, ◌⊎◌, Option, Some, None, Result, Ok, Err, codes}
use Rattle.std.proofs.Common.{inl, inr, refl}
use Rattle.pc_script.specs.declared.given.Given.{Given}
use Rattle.pc_command.specs.declared.command.Command.{Command}
use Rattle.pc_command.specs.declared.command.Command.TheVariants.{Load, Put, Add, Fill, Retype, Cut, Undo, Redo, Show}
use Rattle.pc_command.specs.declared.error.CommandError.{CommandError}
use Rattle.pc_command.specs.declared.answer.Answer.{Answer}
use Rattle.pc_command.specs.declared.answer.Answer.TheVariants.{Edited, Done, Shown, Refused, Wrong}
use Rattle.pc_command.specs.declared.refusal.Refusal.{Refusal}
use Rattle.pc_command.specs.declared.refusal.Refusal.TheVariants.{NoMemory}
use Rattle.pc_command.specs.Lines.{reading}
use Rattle.pc_command.specs.Replies.{reply_of}
use Rattle.pc_session.specs.declared.accepted.Accepted.{Accepted}
use Rattle.pc_session.specs.PlainSession.{PlainSession, watched}
use Rattle.pc_session.specs.Editing.{Writes, Retypes, Puts, Adds, Fills, Cuts}
use Rattle.pc_session.specs.Commands.{Edits, IsUndone, IsRedone, shown}
use Rattle.pc_transcript.specs.State.{State}
use Rattle.pc_transcript.specs.declared.piece.Piece.{Piece}

-- The answer to an edit with a result.
abbrev pub edited : Result Accepted Refusal → Answer
edited (Ok accepted) = Edited accepted.count accepted.dropped
edited (Err refusal) = Refused refusal

-- The answer to undo or redo with a result.
abbrev pub moved : Result ℕ Refusal → Answer
moved (Ok count) = Done count
moved (Err refusal) = Refused refusal

-- The answer to an edit says what it did.
abbrev pub AnswersEdit : (Result Accepted Refusal → Type 0) → Answer → Type 0
AnswersEdit does (Edited count dropped) = does (Ok (record { count = count; dropped = dropped }))
AnswersEdit does (Refused refusal) = does (Err refusal)
AnswersEdit does _ = ⊥

-- The answer to undo or redo says what it did.
abbrev pub AnswersMove : (Result ℕ Refusal → Type 0) → Answer → Type 0
AnswersMove does (Done count) = does (Ok count)
AnswersMove does (Refused refusal) = does (Err refusal)
AnswersMove does _ = ⊥

-- The answer is this text, or that there is no memory.
abbrev pub AnswersText : List ℕ → Answer → Type 0
AnswersText text (Shown bytes) = bytes ≡ text
AnswersText text (Refused NoMemory) = Unit {0}
AnswersText text _ = ⊥

-- What a command does: the session before it, its answer, and the session after it.
abbrev pub Does : Command → PlainSession → Answer → PlainSession → Type 0
Does (Load text) s answer t = AnswersEdit (λ result. Edits (Writes text) s result t) answer
Does (Put path template) s answer t = AnswersEdit (λ result. Edits (Puts path template) s result t) answer
Does (Add path number template) s answer t = AnswersEdit (λ result. Edits (Adds path number template) s result t) answer
Does (Fill path text) s answer t = AnswersEdit (λ result. Edits (Fills path text) s result t) answer
Does (Retype range text) s answer t = AnswersEdit (λ result. Edits (Retypes range text) s result t) answer
Does (Cut path) s answer t = AnswersEdit (λ result. Edits (Cuts path) s result t) answer
Does Undo s answer t = AnswersMove (λ result. IsUndone s result t) answer
Does Redo s answer t = AnswersMove (λ result. IsRedone s result t) answer
Does (Show name) s answer t = AnswersText (shown name s) answer × (t ≡ s)

-- Whether an answer is a refusal: the command isn't done, or the line is none.
abbrev pub refuses : Answer → Bool
refuses (Refused refusal) = true
refuses (Wrong error) = true
refuses _ = false

-- What is written for an answer: its reply, and then the text of the watched views.
abbrev pub piece_of : Answer → List ℕ → Piece
piece_of answer views = record { text = reply_of answer ++ views; refuses = refuses answer }

-- What is written for a command, and the state that it leaves.
abbrev pub Obeys : Command → State → Piece → State → Type 0
Obeys command s piece t =
    (answer : Answer) × Does command s.session answer t.session × (piece ≡ piece_of answer (watched s.session t.session)) × (t.files ≡ s.files)

-- What is written for a line that is read so: nothing for a blank line or a note, and a line that is no command changes nothing.
abbrev pub RepliesTo : Result (Option Command) CommandError → State → Piece → State → Type 0
RepliesTo (Ok (Some command)) s piece t = Obeys command s piece t
RepliesTo (Ok None) s piece t = (piece ≡ record { text = []; refuses = false }) × (t ≡ s)
RepliesTo (Err error) s piece t = (piece ≡ piece_of (Wrong error) []) × (t ≡ s)

-- What is written for a command for which there is no memory.
abbrev pub no_memory : Piece
no_memory = record { text = codes "refused: no memory\n"; refuses = true }

-- What may be answered to a command: its reply, or that there is no memory, and then it counts as not given.
unfoldable pub Answers : State → Given → Piece → State → Type 0
Answers s given piece t = RepliesTo (reading given.line given.here) s piece t ⊎ ((piece ≡ no_memory) × (t ≡ s))

-- A command may be answered its reply.
pub Answers-replies : (s : State) (given : Given) (piece : Piece) (t : State) → RepliesTo (reading given.line given.here) s piece t → Answers s given piece t
unfolding Answers
Answers-replies s given piece t replies = inl replies

-- Any command may be answered that there is no memory.
pub Answers-no_memory : (s : State) (given : Given) → Answers s given no_memory s
unfolding Answers
Answers-no_memory s given = inr (refl, refl)
