-- What a run commands: the words of the command line, and the script.
use Rattle.std.specs.Prelude.{◌≡◌, ℕ, Bool, false, List, [], ◌∷◌}
use Rattle.pc_script.specs.Ahead.{Ahead}
use Rattle.pc_script.specs.Script.{commands_in}
use Rattle.pc_script.specs.declared.given.Given.{Given}

-- The words are some that the program takes: so far none.
abbrev pub AreTaken : {Word : Type 0} → List Word → Type 0
AreTaken words = words ≡ []

-- The commands of the words and of some bytes of the script, and whether it goes on after them; where more bytes may come after these, only
-- the commands that stand whole in them. Words that the program doesn't take command nothing.
unfoldable pub commands_with : {Word : Type 0} → List Word → List ℕ → Bool → Ahead Given
commands_with [] bytes more = commands_in bytes more
commands_with (word ∷ words) bytes more = record { items = []; further = false }

-- The commands of a whole run.
abbrev pub run_commands : {Word : Type 0} → List Word → List ℕ → Ahead Given
run_commands words bytes = commands_with words bytes false
