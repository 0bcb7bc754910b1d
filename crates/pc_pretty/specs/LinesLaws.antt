-- Lines and columns, counted.
use Rattle.std.specs.Prelude.{◌≡◌, ◌↔◌, ◌<◌, ◌+◌, ◌==◌, ℕ, suc, if◌then◌else◌, List, [], ◌∷◌, Some, length, take}
use Rattle.pc_pretty.specs.Ranges.{place_at}

-- how many line feeds there are
abbrev pub line_feeds : List ℕ → ℕ
line_feeds [] = 0
line_feeds (b ∷ bs) = if b == 10 then suc (line_feeds bs) else line_feeds bs

-- the bytes behind the last line feed, or all where there is none: the longest end without a line feed
abbrev pub last_line : List ℕ → List ℕ
last_line [] = []
last_line (b ∷ bs) = if line_feeds (b ∷ bs) == 0 then b ∷ bs else last_line bs

-- the byte at a place of the text, from 0, stands on this line, one more than the number of line feeds before it, and at
-- this column, one more than the number of bytes before it since the last of these line feeds
pub record StandsAt (text : List ℕ) (line column at : ℕ) : Type 0 where
  pub within : at < length text
  pub line_is : line ≡ line_feeds (take at text) + 1
  pub column_is : column ≡ length (last_line (take at text)) + 1

-- the place of a line and column is that of the byte that stands there
abbrev pub PlacesAreCounted : Type 0
PlacesAreCounted = (text : List ℕ) (line column at : ℕ) → place_at text line column ≡ Some at ↔ StandsAt text line column at
