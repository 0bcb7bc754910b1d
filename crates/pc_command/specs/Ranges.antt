-- The form of a range: a line and a column, a hyphen, and a line and a column.
use Rattle.std.specs.Prelude.{ℕ, ◌+◌, ◌==◌, List, Option, Some, None, take, drop, option_map}
use Rattle.std.specs.List.{position}
use Rattle.std.specs.Option.{option_and_then}
use Rattle.pc_syntax.specs.Paths.{element_number}
use Rattle.pc_pretty.specs.declared.range.Range.{Range}

-- What stands before the first such mark, and what stands behind it.
unfoldable pub halves : ℕ → List ℕ → Option (List ℕ × List ℕ)
halves mark word = option_map (λ i. (take i word, drop (i + 1) word)) (position (λ byte. byte == mark) word)

-- Two numbers, where both are there.
abbrev pub place_of_numbers : Option ℕ → Option ℕ → Option (ℕ × ℕ)
place_of_numbers (Some line) (Some column) = Some (line, column)
place_of_numbers (Some line) None = None
place_of_numbers None column = None

-- A line and a column with a colon between them, each from 1 to 4294967295, leading zeros allowed.
unfoldable pub place_of : List ℕ → Option (ℕ × ℕ)
place_of word = option_and_then (λ parts. place_of_numbers (element_number parts.0) (element_number parts.1)) (halves 58 word)

-- The range between two places, where both are there.
abbrev pub range_of_places : Option (ℕ × ℕ) → Option (ℕ × ℕ) → Option Range
range_of_places (Some from) (Some to) = Some (record { from_line = from.0; from_column = from.1; to_line = to.0; to_column = to.1 })
range_of_places (Some from) None = None
range_of_places None to = None

-- The range that a word writes.
unfoldable pub range_of : List ℕ → Option Range
range_of word = option_and_then (λ parts. range_of_places (place_of parts.0) (place_of parts.1)) (halves 45 word)
