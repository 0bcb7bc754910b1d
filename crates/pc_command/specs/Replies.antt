-- The texts of replies.
use Rattle.std.specs.Prelude.{ℕ, List, ◌++◌, ◌==◌, if◌then◌else◌, codes}
use Rattle.std.specs.Fmt.{decimal}
use Rattle.pc_command.specs.Texts.{refusal_text, error_text}
use Rattle.pc_command.specs.declared.answer.Answer.{Answer}
use Rattle.pc_command.specs.declared.answer.Answer.TheVariants.{Edited, Done, Shown, Refused, Wrong}

-- The reply to what was done.
abbrev pub done : ℕ → List ℕ
done number = codes "ok " ++ decimal number ++ codes "\n"

-- The reply to what isn't done.
abbrev pub refused : List ℕ → List ℕ
refused text = codes "refused: " ++ text ++ codes "\n"

-- The reply, with its last line feed.
unfoldable pub reply_of : Answer → List ℕ
reply_of (Edited number dropped) =
    if dropped == 0 then done number else codes "ok " ++ decimal number ++ codes " dropped " ++ decimal dropped ++ codes "\n"
reply_of (Done number) = done number
reply_of (Shown text) = text
reply_of (Refused refusal) = refused (refusal_text refusal)
reply_of (Wrong error) = refused (error_text error)
