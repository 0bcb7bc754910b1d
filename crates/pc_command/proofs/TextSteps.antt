-- What the text from the lines after a line is to what the line says.
use Rattle.std.proofs.Common.{◌≡◌, ◌≢◌, ℕ, Bool, true, false, if◌then◌else◌, List, Option, Some, None, Ok, Err, IsTrue, refl}
use Rattle.std.specs.Option.{option_map_or, option_and_then}
use Rattle.pc_command.specs.Words.{has_bytes, first_word, behind_word}
use Rattle.pc_command.specs.Vocabulary.{command_word_of}
use Rattle.pc_command.specs.Form.{fits, is_skipped, end_word, text_behind, text_in, here_word}
use Rattle.pc_command.specs.Lines.{Read, ◌>>=◌, path_reading, range_reading, text_reading, load_reading, fill_reading, retype_reading, command_reading, line_reading, reading}
use Rattle.pc_command.specs.declared.command.Command.{Command}
use Rattle.pc_command.specs.declared.command_word.CommandWord.{CommandWord}
use Rattle.pc_command.specs.declared.command_word.CommandWord.TheVariants as word
use Rattle.pc_command.specs.declared.error.CommandError.TheVariants.{Unknown, Missing}

-- the text of a command that takes none doesn't matter

command_passes : (command : CommandWord) (rest text : List ℕ) → option_and_then end_word (text_behind command rest) ≡ None →
    command_reading command rest (Some text) ≡ command_reading command rest None
unfolding text_behind command_reading load_reading fill_reading retype_reading text_reading
command_passes word.Load rest text none = rw none refl
command_passes word.Fill rest text none = rw none refl
command_passes word.Retype rest text none = rw none refl
command_passes _ rest text none = refl

word_passes : (command : Option CommandWord) (rest text : List ℕ) → option_and_then end_word (option_and_then (λ c. text_behind c rest) command) ≡ None →
    option_map_or (λ c. command_reading c rest (Some text)) command (Err Unknown) ≡ option_map_or (λ c. command_reading c rest None) command (Err Unknown)
word_passes None rest text none = refl
word_passes (Some command) rest text none = command_passes command rest text none

line_passes : (line text : List ℕ) → fits line ≡ true → here_word line ≡ None → line_reading line (Some text) ≡ line_reading line None
unfolding here_word text_in line_reading
line_passes line text short none = word_passes (command_word_of (first_word line)) (behind_word line) text (rw short at none)

passes : (line text : List ℕ) (skipped short : Bool) → is_skipped line ≡ skipped → fits line ≡ short → here_word line ≡ None → IsTrue (fits text) →
    reading line (Some text) ≡ reading line None
unfolding reading
passes line text true short skips is none within = rw skips refl
passes line text false false skips is none within = rw (skips, is) refl
passes line text false true skips is none within = rw (skips, is, within, line_passes line text is none) refl

pub passes_over : (line text : List ℕ) → here_word line ≡ None → IsTrue (fits text) → reading line (Some text) ≡ reading line None
passes_over line text none within = passes line text _ _ refl refl none within

-- a command that takes a text needs it

misses : {T : Type 0} (stands : Bool) (path : Read T) (made : Command) →
    (if stands then path >>= (λ _. Err Missing) else Err Missing) ≢ Ok made
misses false path made is = cc
misses true (Ok path) made is = cc
misses true (Err error) made is = cc

command_needs : (command : CommandWord) (rest ending : List ℕ) (made : Command) → option_and_then end_word (text_behind command rest) ≡ Some ending →
    command_reading command rest None ≢ Ok made
unfolding text_behind command_reading load_reading fill_reading retype_reading text_reading
command_needs word.Load rest ending made some is = let missing = rw some at is in cc
command_needs word.Fill rest ending made some is = misses (has_bytes (first_word rest)) (path_reading (first_word rest)) made (rw some at is)
command_needs word.Retype rest ending made some is = misses (has_bytes (first_word rest)) (range_reading (first_word rest)) made (rw some at is)
command_needs _ rest ending made some is = cc

word_needs : (command : Option CommandWord) (rest ending : List ℕ) (made : Command) →
    option_and_then end_word (option_and_then (λ c. text_behind c rest) command) ≡ Some ending →
    option_map_or (λ c. command_reading c rest None) command (Err Unknown) ≢ Ok made
word_needs None rest ending made some is = cc
word_needs (Some command) rest ending made some is = command_needs command rest ending made some is

line_needs : (line ending : List ℕ) (made : Command) → fits line ≡ true → here_word line ≡ Some ending → line_reading line None ≢ Ok made
unfolding here_word text_in line_reading
line_needs line ending made short some = word_needs (command_word_of (first_word line)) (behind_word line) ending made (rw short at some)

made_of : (answer : Read Command) (made : Command) → (answer >>= (λ command. Ok (Some command))) ≡ Ok (Some made) → answer ≡ Ok made
made_of (Ok command) made is = cc
made_of (Err error) made is = cc

needs : (line ending : List ℕ) (made : Command) (skipped short : Bool) → is_skipped line ≡ skipped → fits line ≡ short → here_word line ≡ Some ending →
    reading line None ≢ Ok (Some made)
unfolding reading
needs line ending made true short skips is some ok = let none = rw skips at ok in cc
needs line ending made false false skips is some ok = let long = rw (skips, is) at ok in cc
needs line ending made false true skips is some ok = line_needs line ending made is some (made_of _ made (rw (skips, is) at ok))

pub needs_its_text : (line ending : List ℕ) (made : Command) → here_word line ≡ Some ending → reading line None ≢ Ok (Some made)
needs_its_text line ending made some = needs line ending made _ _ refl refl some
