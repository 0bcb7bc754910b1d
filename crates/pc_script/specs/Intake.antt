-- What an intake and its source have still to give.
use Rattle.std.specs.Prelude.{◌≡◌, ℕ, ◌+◌, ◌-◌, ◌*◌, ◌<◌, ◌≤◌, Bool, true, List, ◌++◌, take, drop, Option, ⊤}
use Rattle.pc_script.specs.Ahead.{Ahead, or_more}
use Rattle.pc_script.specs.Reading.{Reading, over}
use Rattle.pc_script.specs.Script.{unit_length, within, lines_ahead, commands_ahead, Between}
use Rattle.pc_script.specs.declared.given.Given.{Given}
use Rattle.pc_script.specs.declared.intake.Intake.{Intake}
use Rattle.pc_script.specs.declared.ahead.Next.{Next}
use Rattle.pc_script.specs.declared.ahead.Next.TheVariants.{Item, End, TooMany}

-- What stands in a buffer from start to end.
unfoldable pub part_of : List ℕ → ℕ → ℕ → List ℕ
part_of buffer start end = take (end - start) (drop start buffer)

-- The bytes of so many units: those that are pending, and then the rest.
unfoldable pub bytes_after : ℕ → ℕ → List ℕ → List ℕ → Bool → Ahead ℕ
bytes_after units room pending rest more = or_more more (within units room (pending ++ rest))

-- The end of the source was met.
unfoldable pub has_ended : Intake → Bool
has_ended i = i.ended

-- The bytes to come, were the source to give these.
unfoldable pub bytes_to_come : Intake → List ℕ → Bool → Ahead ℕ
bytes_to_come i = bytes_after i.left i.room (part_of i.buffer.items i.start i.end)

-- The commands to come, were the source to give these bytes.
unfoldable pub commands_to_come : Intake → List ℕ → Bool → Ahead Given
commands_to_come i rest more = commands_ahead Between (lines_ahead (bytes_to_come i rest more))

-- The bytes, the lines and the commands of the script while it is read.
abbrev pub bytes_of : Intake → Option (List ℕ) → Reading ℕ
bytes_of i left = record { left = left; ended = has_ended i; ahead = bytes_to_come i }

abbrev pub lines_of : Intake → Option (List ℕ) → Reading (List ℕ)
lines_of i left = over lines_ahead (bytes_of i left)

abbrev pub commands_of : Intake → Option (List ℕ) → Reading Given
commands_of i left = record { left = left; ended = has_ended i; ahead = commands_to_come i }

-- How many bytes may be taken at most.
unfoldable pub allowance : Intake → ℕ
allowance i = i.left * unit_length + i.room

-- An item lowers the number, and nothing raises it.
abbrev pub LowersAt : {X : Type 0} → ℕ → ℕ → Next X → Type 0
LowersAt before now (Item x) = now < before
LowersAt before now End = now ≤ before
LowersAt before now TooMany = now ≤ before

-- The end comes only where the source's end was met.
abbrev pub EndsAt : {X : Type 0} → Bool → Next X → Type 0
EndsAt ended (Item x) = ⊤
EndsAt ended End = ended ≡ true
EndsAt ended TooMany = ⊤
