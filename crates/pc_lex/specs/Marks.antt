-- Marks (ISO 7185, 6.1.2 and 6.1.9).
use Rattle.std.specs.Prelude.{ℕ, ◌==◌, ◌&&◌, if◌then◌else◌, List, [], ◌∷◌, Option, Some, None}
use Rattle.pc_lex.specs.declared.error.LexError.TheVariants.{BadByte}
use Rattle.pc_lex.specs.declared.symbol.SymbolKind.TheVariants.{Mark}
use Rattle.pc_lex.specs.declared.front.Front.{Front}
use Rattle.pc_lex.specs.declared.front.Front.TheVariants.{Symbol, Fault}

-- the row of a mark of one byte: its place in `+ - * / = < > [ ] . , : ; ^ ( )`; `@` is `^`
unfoldable pub single_mark : ℕ → Option ℕ
single_mark b = if b == 43 then Some 1 else if b == 45 then Some 2 else if b == 42 then Some 3 else if b == 47 then Some 4
    else if b == 61 then Some 5 else if b == 60 then Some 6 else if b == 62 then Some 7 else if b == 91 then Some 8
    else if b == 93 then Some 9 else if b == 46 then Some 10 else if b == 44 then Some 11 else if b == 58 then Some 12
    else if b == 59 then Some 13 else if b == 94 then Some 14 else if b == 64 then Some 14 else if b == 40 then Some 15
    else if b == 41 then Some 16 else None

-- the row of a mark of two bytes: `<>`, `<=`, `>=`, `:=`, `..`; `(.` is `[`, and `.)` is `]`
unfoldable pub double_mark : ℕ → ℕ → Option ℕ
double_mark b c = if b == 60 && c == 62 then Some 17 else if b == 60 && c == 61 then Some 18 else if b == 62 && c == 61 then Some 19
    else if b == 58 && c == 61 then Some 20 else if b == 46 && c == 46 then Some 21 else if b == 40 && c == 46 then Some 8
    else if b == 46 && c == 41 then Some 9 else None

-- a mark of one byte with this row, or a fault where there is none
abbrev pub single_or_fault : Option ℕ → Front
single_or_fault None = Fault (BadByte 1)
single_or_fault (Some row) = Symbol (Mark row) 1

-- a mark of two bytes with this row, and else what one byte makes
abbrev pub double_or : Option ℕ → Front → Front
double_or None front = front
double_or (Some row) front = Symbol (Mark row) 2

-- the longest mark that stands here
unfoldable pub mark_at : List ℕ → Front
mark_at [] = Fault (BadByte 1)
mark_at (b ∷ []) = single_or_fault (single_mark b)
mark_at (b ∷ c ∷ bs) = double_or (double_mark b c) (single_or_fault (single_mark b))
