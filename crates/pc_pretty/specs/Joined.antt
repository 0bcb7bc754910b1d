-- The span of several symbols, from those of each.
use Rattle.std.specs.Prelude.{◌≡◌, ℕ, ◌+◌, List, [], ◌∷◌, ◌++◌, length, Option, Some, None, take, drop}
use Rattle.pc_lex.specs.declared.symbol.Span.{Span}
use Rattle.pc_pretty.specs.Printed.{Piece, written}

-- the end of the last of these spans, or else this one
abbrev pub last_end : ℕ → List Span → ℕ
last_end end [] = end
last_end end (s ∷ ss) = last_end s.to ss

-- from the first of these spans to the end of the last
abbrev pub join : List Span → Option Span
join [] = None
join (s ∷ ss) = Some (record { from = s.from; to = last_end s.to ss })

-- the span of so many of them behind so many
abbrev pub joined : List Span → ℕ → ℕ → Option Span
joined ss before n = join (take n (drop before ss))

-- from one span to the end of another, where each may be missing
abbrev pub through : Option Span → Option Span → Option Span
through None next = next
through (Some span) None = Some span
through (Some span) (Some next) = Some (record { from = span.from; to = next.to })

-- the span of a symbol that is written behind so many bytes and a gap
abbrev pub symbol_span : ℕ → List ℕ → List ℕ → Span
symbol_span at gap bytes = record { from = at + length gap; to = at + length gap + length bytes }

-- where each symbol of pieces stands, where so many bytes stand before them
abbrev pub piece_spans : ℕ → List Piece → List Span
piece_spans at [] = []
piece_spans at (p ∷ ps) = symbol_span at p.gap (written p.sym) ∷ piece_spans (at + length p.gap + length (written p.sym)) ps

-- from a number on these spans stand in the first list
abbrev pub StandFrom : List Span → ℕ → List Span → Type 0
StandFrom ss n own = (rest : List Span) × (drop n ss ≡ own ++ rest)
