-- The form of one line: whether it is a command, and whether it takes a text from the lines after it.
use Rattle.std.specs.Prelude.{ℕ, ◌≡◌, Bool, true, false, not, ◌&&◌, ◌||◌, ◌==◌, if◌then◌else◌, nat_le, List, [], ◌∷◌, take, drop, length, Option, Some, None, codes}
use Rattle.std.proofs.Common.{refl}
use Rattle.std.specs.List.{list_all}
use Rattle.std.specs.Option.{option_and_then}
use Rattle.std.specs.Str.{bytes_eq}
use Rattle.pc_command.specs.Words.{unindented, first_word, behind_word}
use Rattle.pc_command.specs.Vocabulary.{command_word_of}
use Rattle.pc_command.specs.declared.command_word.CommandWord.{CommandWord}
use Rattle.pc_command.specs.declared.command_word.CommandWord.TheVariants as command

-- The most bytes of a line, or of a text that stands in the lines after it.
unfoldable pub line_limit : ℕ
line_limit = 1000000

pub line_limit-is : line_limit ≡ 1000000
unfolding line_limit
line_limit-is = refl

-- It has no more bytes than that.
abbrev pub fits : List ℕ → Bool
fits bytes = nat_le (length bytes) line_limit

abbrev pub is_note : List ℕ → Bool
is_note [] = true
is_note (b ∷ bs) = b == 35

-- A blank line or a note, which is no command.
unfoldable pub is_skipped : List ℕ → Bool
is_skipped line = if fits line then is_note (unindented line) else false

abbrev pub is_letter : ℕ → Bool
is_letter b = (nat_le 65 b && nat_le b 90) || (nat_le 97 b && nat_le b 122)

abbrev pub is_word : List ℕ → Bool
is_word bytes = not (length bytes == 0) && list_all is_letter bytes

-- The word that ends a text which stands in the lines after a line with this text: what stands behind `<<`, one letter or more.
unfoldable pub end_word : List ℕ → Option (List ℕ)
end_word text = if bytes_eq (take 2 text) (codes "<<") && is_word (drop 2 text) then Some (drop 2 text) else None

-- The text in what stands behind a command word, for the commands that take one: all of it, or what stands behind its first word.
unfoldable pub text_behind : CommandWord → List ℕ → Option (List ℕ)
text_behind command.Load rest = Some rest
text_behind command.Input rest = Some rest
text_behind command.Inputln rest = Some rest
text_behind command.Fill rest = Some (behind_word rest)
text_behind command.Retype rest = Some (behind_word rest)
text_behind _ rest = None

-- The text in a line, where its command takes one.
unfoldable pub text_in : List ℕ → Option (List ℕ)
text_in line = option_and_then (λ word. text_behind word (behind_word line)) (command_word_of (first_word line))

-- The word that ends the text which the line takes from the lines after it.
unfoldable pub here_word : List ℕ → Option (List ℕ)
here_word line = if fits line then option_and_then end_word (text_in line) else None
