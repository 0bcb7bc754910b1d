-- A text from the lines after a line counts exactly where the line takes one.
use Rattle.std.specs.Prelude.{◌≡◌, ◌≢◌, ℕ, List, Some, None, Ok, IsTrue}
use Rattle.pc_command.specs.Form.{fits, here_word}
use Rattle.pc_command.specs.Lines.{reading}
use Rattle.pc_command.specs.declared.command.Command.{Command}

-- A text that the line doesn't take changes nothing, where it isn't too long.
abbrev pub PassesOver : Type 0
PassesOver = (line text : List ℕ) → here_word line ≡ None → IsTrue (fits text) → reading line (Some text) ≡ reading line None

-- A line that takes a text is no command without it.
abbrev pub NeedsItsText : Type 0
NeedsItsText = (line word : List ℕ) (command : Command) → here_word line ≡ Some word → reading line None ≢ Ok (Some command)
