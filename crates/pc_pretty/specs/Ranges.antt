-- Parts of a text by lines and columns.
use Rattle.std.specs.Prelude.{ℕ, suc, ◌+◌, ◌==◌, ◌&&◌, nat_le, if◌then◌else◌, List, [], ◌∷◌, ◌++◌, Option, Some, None, take, drop, option_map}
use Rattle.pc_lex.specs.declared.symbol.Span.{Span}
use Rattle.pc_pretty.specs.declared.range.Range.{Range}

-- the place, in bytes from 0, at which a line and column stand in a text that begins at the line and column given first.
-- Each byte stands on a line at a column: the one behind a line feed at column 1 of the next line, any other one column
-- behind the byte before it. A line feed is the last byte of its line
unfoldable pub place_from : ℕ → ℕ → List ℕ → ℕ → ℕ → Option ℕ
place_from l c [] line column = None
place_from l c (b ∷ bs) line column =
    if l == line && c == column then Some 0 else option_map suc (if b == 10 then place_from (l + 1) 1 bs line column else place_from l (c + 1) bs line column)

-- the place of a line and column, both from 1; none where no byte of the text stands there
abbrev pub place_at : List ℕ → ℕ → ℕ → Option ℕ
place_at text line column = place_from 1 1 text line column

-- from one place to before another, where they are in order
abbrev pub ordered_span : Option ℕ → Option ℕ → Option Span
ordered_span None to = None
ordered_span (Some from) None = None
ordered_span (Some from) (Some to) = if nat_le from to then Some (record { from = from; to = to }) else None

-- the span of a range; none where an end isn't in the text or precedes the start
abbrev pub range_span : List ℕ → Range → Option Span
range_span text r = ordered_span (place_at text r.from_line r.from_column) (place_at text r.to_line r.to_column)

-- the text with other bytes in the place of a span
abbrev pub replaced : List ℕ → Span → List ℕ → List ℕ
replaced text s new = take s.from text ++ new ++ drop s.to text
