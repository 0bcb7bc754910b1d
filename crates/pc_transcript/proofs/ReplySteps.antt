-- What may be answered to a line, from what it was read as.
use Rattle.std.proofs.Common.{◌≡◌, ap, ℕ, List, false, [], Option, Result, Ok, Err, inl, inr, refl, subst}
use Rattle.pc_script.specs.declared.given.Given.{Given}
use Rattle.pc_command.specs.declared.command.Command.{Command}
use Rattle.pc_command.specs.declared.error.CommandError.{CommandError}
use Rattle.pc_command.specs.declared.error.CommandError.TheVariants.{NoMemory}
use Rattle.pc_command.specs.declared.answer.Answer.TheVariants.{Wrong}
use Rattle.pc_command.specs.Lines.{reading, Reads}
use Rattle.pc_command.specs.Replies.{reply_of}
use Rattle.pc_transcript.specs.State.{State}
use Rattle.pc_transcript.specs.declared.piece.Piece.{Piece}
use Rattle.pc_transcript.specs.Obeying.{piece_of, RepliesTo, Answers, Answers-replies, Answers-no_memory, no_memory}

-- A line that is read is answered so.
pub Answers-read : (s t : State) (given : Given) (read : Option Command) (piece : Piece) → Reads (reading given.line given.here) (Ok read) → RepliesTo (Ok read) s piece t → Answers s given piece t
Answers-read s t given read piece (inl none) replies = cc
Answers-read s t given read piece (inr is) replies =
    let P : Result (Option Command) CommandError → Type 0 = λ r. RepliesTo r s piece t in
    Answers-replies s given piece t (subst P is replies)

wrong-no_memory : piece_of (Wrong NoMemory) [] ≡ no_memory
unfolding reply_of
wrong-no_memory = refl

-- A line that is no command says why.
pub Answers-wrong : (s : State) (given : Given) (error : CommandError) (piece : Piece) → Reads (reading given.line given.here) (Err error) → piece ≡ piece_of (Wrong error) [] → Answers s given piece s
Answers-wrong s given error piece (inl none) is =
    let same : error ≡ NoMemory = cc in
    rw (is, same, wrong-no_memory) (Answers-no_memory s given)
Answers-wrong s given error piece (inr read) is =
    let P : Result (Option Command) CommandError → Type 0 = λ r. RepliesTo r s piece s in
    Answers-replies s given piece s (subst P read (is, refl))

-- What is written for a line that asks for nothing.
abbrev pub unasked : List ℕ → Piece
unasked text = record { text = text; refuses = false }

pub unasked-is : (text : List ℕ) → text ≡ [] → unasked text ≡ unasked []
unasked-is text is = ap unasked is
