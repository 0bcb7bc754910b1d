-- How the bytes of a script are cut into units, lines and commands.
use Rattle.std.specs.Prelude.{ℕ, ◌≡◌, ◌+◌, ◌-◌, Bool, true, false, ◌||◌, ◌==◌, if◌then◌else◌, nat_le, nat_lt, List, [], ◌∷◌, ◌++◌, map, take, length, Some, None}
use Rattle.std.proofs.Common.{refl}
use Rattle.std.specs.List.{onto_first, concat, slice_split}
use Rattle.std.specs.Option.{option_map_or}
use Rattle.std.specs.Str.{bytes_eq}
use Rattle.std.specs.Str.Lines.{strip_carriage_return, lines_of_parts}
use Rattle.pc_script.specs.Ahead.{Ahead, or_more}
use Rattle.pc_command.specs.Form.{line_limit, is_skipped, here_word}
use Rattle.pc_script.specs.declared.ahead.Next.{Next}
use Rattle.pc_script.specs.declared.ahead.Next.TheVariants.{Item, End, TooMany}
use Rattle.pc_script.specs.declared.given.Given.{Given}

-- Of a line or a text no more is looked at than tells that it is too long.
abbrev pub shortened : List ℕ → List ℕ
shortened bytes = take (line_limit + 1) bytes

-- The most units of a script.
unfoldable pub unit_limit : ℕ
unit_limit = 10000000

pub unit_limit-is : unit_limit ≡ 10000000
unfolding unit_limit
unit_limit-is = refl

-- The most bytes of a unit.
unfoldable pub unit_length : ℕ
unit_length = 1000000

pub unit_length-is : unit_length ≡ 1000000
unfolding unit_length
unit_length-is = refl

-- A unit ends at a line feed, or when it has no room for more.
unfoldable pub units : ℕ → List ℕ → List (List ℕ)
units room [] = []
units room (b ∷ bs) = if b == 10 || nat_le room 1 then (b ∷ []) ∷ units unit_length bs else onto_first b (units (room - 1) bs)

-- How many units a script has.
abbrev pub unit_count : List ℕ → ℕ
unit_count bytes = length (units unit_length bytes)

-- The bytes of so many units, where the first has room for so many bytes, and whether there are more units.
unfoldable pub within : ℕ → ℕ → List ℕ → Ahead ℕ
within left room bytes = record { items = concat (take left (units room bytes)); further = nat_lt left (length (units room bytes)) }

-- The lines that end with a line feed.
unfoldable pub ended_lines_of_parts : List (List ℕ) → List (List ℕ)
ended_lines_of_parts [] = []
ended_lines_of_parts (x ∷ []) = []
ended_lines_of_parts (x ∷ y ∷ more) = strip_carriage_return x ∷ ended_lines_of_parts (y ∷ more)

-- The lines to come. Where the script goes on after these bytes, what comes after the last line feed is no line yet.
unfoldable pub lines_ahead : Ahead ℕ → Ahead (List ℕ)
lines_ahead a = record {
  items = map shortened (let parts = slice_split (λ b. b == 10) a.items in if a.further then ended_lines_of_parts parts else lines_of_parts parts);
  further = a.further;
}

-- Where a script stands before a line: between two commands, or in the text of one, after so much of it.
pub data Place : Type 0 where
  Between : Place
  InText : List ℕ → List ℕ → List ℕ → Place

-- The commands of some lines. A text that isn't ended is none, and where more lines may come its command isn't whole.
unfoldable pub commands : Bool → List (List ℕ) → Place → List Given
commands further [] Between = []
commands further [] (InText line word text) = if further then [] else record { line = line; here = None } ∷ []
commands further (x ∷ xs) Between =
    if is_skipped x then commands further xs Between
    else option_map_or (λ word. commands further xs (InText x word [])) (here_word x) (record { line = x; here = None } ∷ commands further xs Between)
commands further (x ∷ xs) (InText line word text) =
    if bytes_eq x word then record { line = line; here = Some text } ∷ commands further xs Between
    else commands further xs (InText line word (shortened (text ++ x ++ 10 ∷ [])))

-- The commands to come.
unfoldable pub commands_ahead : Place → Ahead (List ℕ) → Ahead Given
commands_ahead place a = record { items = commands a.further a.items place; further = a.further }

-- The commands to come, where this line stands before the lines.
abbrev pub after_line : List ℕ → Ahead (List ℕ) → Ahead Given
after_line line a = commands_ahead Between (record { items = line ∷ a.items; further = a.further })

-- The command of a line that took this text, or for whose text the script ended too early.
abbrev pub command_with : List ℕ → Next (List ℕ) → Next Given
command_with line (Item text) = Item (record { line = line; here = Some text })
command_with line End = Item (record { line = line; here = None })
command_with line TooMany = TooMany

-- The commands of the first units of some bytes, as many as a script may have, and whether there are more. Where more bytes may come after
-- these, a last line without its line feed is no line yet, and a text that isn't ended is no part of a command yet.
unfoldable pub commands_in : List ℕ → Bool → Ahead Given
commands_in bytes more = commands_ahead Between (lines_ahead (or_more more (within unit_limit unit_length bytes)))

-- A script: the commands of its first units, as many as it may have, and whether it goes on after them.
abbrev pub script : List ℕ → Ahead Given
script bytes = commands_in bytes false

-- The commands that stand whole, with all their line ends, in some bytes.
abbrev pub whole_commands : List ℕ → List Given
whole_commands bytes = (commands_in bytes true).items
