-- What a command line says. Of several reasons why it is no command, the first in the order of `CommandError` counts.
use Rattle.std.specs.Prelude.{◌≡◌, ◌⊎◌, ℕ, true, ◌&&◌, if◌then◌else◌, List, [], ◌∷◌, Option, Some, None, Result, Ok, Err}
use Rattle.std.specs.Option.{option_map_or, ok_or}
use Rattle.pc_syntax.specs.Paths.{path_of, element_number}
use Rattle.pc_pretty.specs.declared.range.Range.{Range}
use Rattle.pc_command.specs.Words.{has_bytes, words_of, first_word, behind_word}
use Rattle.pc_command.specs.Vocabulary.{command_word_of, view_word_of}
use Rattle.pc_command.specs.Form.{fits, is_skipped, end_word}
use Rattle.pc_command.specs.Ranges.{range_of}
use Rattle.pc_command.specs.declared.command_word.CommandWord.{CommandWord}
use Rattle.pc_command.specs.declared.command_word.CommandWord.TheVariants as word
use Rattle.pc_command.specs.declared.view_word.ViewWord.{ViewWord}
use Rattle.pc_command.specs.declared.view_word.ViewWord.TheVariants as view
use Rattle.pc_command.specs.declared.command.ViewName.{ViewName}
use Rattle.pc_command.specs.declared.command.ViewName.TheVariants.{Syntax, Nodes, Decls, Errors}
use Rattle.pc_command.specs.declared.command.Command.{Command}
use Rattle.pc_command.specs.declared.command.Command.TheVariants.{Load, Put, Add, Fill, Retype, Cut, Undo, Redo, Show}
use Rattle.pc_command.specs.declared.error.CommandError.{CommandError}
use Rattle.pc_command.specs.declared.error.CommandError.TheVariants.{TooLong, Unknown, NotBuilt, BadNumber, BadPath, Missing, Extra, NoMemory}

-- What is read, or why it can't be.
abbrev pub Read : Type 0 → Type 0
Read T = Result T CommandError

infixl 10 ◌>>=◌
abbrev pub ◌>>=◌ : {A B : Type 0} → Read A → (A → Read B) → Read B
Ok x >>= f = f x
Err e >>= f = Err e

-- The command, where no word is left over.
unfoldable pub alone : Command → List (List ℕ) → Read Command
alone command [] = Ok command
alone command (word ∷ more) = Err Extra

-- The path that a word writes.
unfoldable pub path_reading : List ℕ → Read (List ℕ)
path_reading word = ok_or (path_of word) BadPath

-- The number of an element that a word writes.
unfoldable pub number_reading : List ℕ → Read ℕ
number_reading word = ok_or (element_number word) BadNumber

-- The range that a word writes.
unfoldable pub range_reading : List ℕ → Read Range
range_reading word = ok_or (range_of word) BadNumber

-- The text of a line, or the text that stands in the lines after it.
unfoldable pub text_reading : List ℕ → Option (List ℕ) → Read (List ℕ)
text_reading text here = option_map_or (λ _. ok_or here Missing) (end_word text) (Ok text)

-- The view of a view word, where it is built.
abbrev pub view_of : ViewWord → Read ViewName
view_of view.Syntax = Ok Syntax
view_of view.Tree = Ok Nodes
view_of view.Decls = Ok Decls
view_of view.Errors = Ok Errors
view_of _ = Err NotBuilt

-- The view that a word names.
unfoldable pub view_reading : List ℕ → Read ViewName
view_reading word = option_map_or view_of (view_word_of word) (Err Unknown)

-- `load TEXT`
unfoldable pub load_reading : List ℕ → Option (List ℕ) → Read Command
load_reading text here = do
  loaded ← text_reading text here
  Ok (Load loaded)

-- `put PATH TEMPLATE`
abbrev pub put_at : List ℕ → List (List ℕ) → Read Command
put_at path [] = Err Missing
put_at path (template ∷ more) = alone (Put path template) more

unfoldable pub put_reading : List (List ℕ) → Read Command
put_reading [] = Err Missing
put_reading (word ∷ more) = do
  path ← path_reading word
  put_at path more

-- `add PATH K TEMPLATE`: the number is read before the path
abbrev pub add_at : List ℕ → ℕ → List (List ℕ) → Read Command
add_at path number [] = Err Missing
add_at path number (template ∷ more) = alone (Add path number template) more

abbrev pub add_behind : List ℕ → List (List ℕ) → Read Command
add_behind path_word [] = do
  path ← path_reading path_word
  Err Missing
add_behind path_word (number_word ∷ more) = do
  number ← number_reading number_word
  path ← path_reading path_word
  add_at path number more

unfoldable pub add_reading : List (List ℕ) → Read Command
add_reading [] = Err Missing
add_reading (word ∷ more) = add_behind word more

-- `fill PATH TEXT`
abbrev pub filled_reading : List ℕ → List ℕ → Option (List ℕ) → Read Command
filled_reading word text here = do
  path ← path_reading word
  filled ← text_reading text here
  Ok (Fill path filled)

unfoldable pub fill_reading : List ℕ → Option (List ℕ) → Read Command
fill_reading rest here =
    if has_bytes (first_word rest) then filled_reading (first_word rest) (behind_word rest) here else Err Missing

-- `retype RANGE TEXT`
abbrev pub retyped_reading : List ℕ → List ℕ → Option (List ℕ) → Read Command
retyped_reading word text here = do
  range ← range_reading word
  new ← text_reading text here
  Ok (Retype range new)

unfoldable pub retype_reading : List ℕ → Option (List ℕ) → Read Command
retype_reading rest here =
    if has_bytes (first_word rest) then retyped_reading (first_word rest) (behind_word rest) here else Err Missing

-- `cut PATH`
unfoldable pub cut_reading : List (List ℕ) → Read Command
cut_reading [] = Err Missing
cut_reading (word ∷ more) = do
  path ← path_reading word
  alone (Cut path) more

-- `show VIEW`
unfoldable pub show_reading : List (List ℕ) → Read Command
show_reading [] = Err Missing
show_reading (word ∷ more) = do
  name ← view_reading word
  alone (Show name) more

-- `watch VIEW` and `unwatch VIEW`, which aren't built yet
unfoldable pub watch_reading : List (List ℕ) → Read Command
watch_reading [] = Err NotBuilt
watch_reading (word ∷ more) = do
  name ← view_reading word
  Err NotBuilt

-- A command word, what stands behind it in the line, and the text from the lines after it.
unfoldable pub command_reading : CommandWord → List ℕ → Option (List ℕ) → Read Command
command_reading word.Load rest here = load_reading rest here
command_reading word.Put rest here = put_reading (words_of rest)
command_reading word.Add rest here = add_reading (words_of rest)
command_reading word.Fill rest here = fill_reading rest here
command_reading word.Retype rest here = retype_reading rest here
command_reading word.Cut rest here = cut_reading (words_of rest)
command_reading word.Undo rest here = alone Undo (words_of rest)
command_reading word.Redo rest here = alone Redo (words_of rest)
command_reading word.Show rest here = show_reading (words_of rest)
command_reading word.Watch rest here = watch_reading (words_of rest)
command_reading word.Unwatch rest here = watch_reading (words_of rest)
command_reading _ rest here = Err NotBuilt

-- A line that is a command.
unfoldable pub line_reading : List ℕ → Option (List ℕ) → Read Command
line_reading line here = option_map_or (λ word. command_reading word (behind_word line) here) (command_word_of (first_word line)) (Err Unknown)

-- A line, and the text that it took from the lines after it: no command, or a command, or why it is none.
unfoldable pub reading : List ℕ → Option (List ℕ) → Read (Option Command)
reading line here =
    if is_skipped line then Ok None
    else (if fits line && option_map_or fits here true then line_reading line here >>= (λ command. Ok (Some command)) else Err TooLong)

-- The answer is this; but the memory may not suffice.
abbrev pub Reads : {T : Type 0} → Read T → Read T → Type 0
Reads wanted answer = (answer ≡ Err NoMemory) ⊎ (answer ≡ wanted)
