-- Where the nodes of a tree stand in its printed text.
use Rattle.std.specs.Prelude.{ℕ, zero, suc, ◌+◌, ◌-◌, List, [], ◌∷◌, ◌++◌, Option, Some, None, length, map, take, drop, option_and_then}
use Rattle.std.specs.Option.{option_map_or}
use Rattle.pc_syntax.specs.declared.item.Item.{Item}
use Rattle.pc_syntax.specs.declared.item.Item.TheVariants.{Literal, Word, Kid}
use Rattle.pc_syntax.specs.Plain.{Plain, kids_of, count}
use Rattle.pc_syntax.specs.Parts.{kid_at}
use Rattle.pc_syntax.specs.Layout.{layout}
use Rattle.pc_syntax.specs.Places.{at}
use Rattle.pc_syntax.specs.Symbols.{symbols_of}
use Rattle.pc_lex.specs.declared.symbol.Span.{Span}
use Rattle.pc_pretty.specs.declared.spacing.Spacing.TheVariants.{Tight}
use Rattle.pc_pretty.specs.Printed.{Piece, place, pieces_of, text_of}

-- how many symbols a node has
unfoldable pub symbol_count : Plain → ℕ
symbol_count t = length (symbols_of t)

-- how many symbols stand before the kid with a number from 0, where a node has these items and its kids so many symbols
abbrev pub before_kid : List Item → List ℕ → ℕ → ℕ
before_kid [] counts i = 0
before_kid (Literal x ∷ is) counts i = suc (before_kid is counts i)
before_kid (Word x ∷ is) counts i = suc (before_kid is counts i)
before_kid (Kid c ∷ is) [] i = 0
before_kid (Kid c ∷ is) (n ∷ ns) zero = 0
before_kid (Kid c ∷ is) (n ∷ ns) (suc i) = n + before_kid is ns i

abbrev pub before_kid_some : Option (List Item) → List ℕ → ℕ → ℕ
before_kid_some None counts i = 0
before_kid_some (Some is) counts i = before_kid is counts i

-- how many of a node's symbols stand before its kid with a number from 1
unfoldable pub symbols_before_kid : Plain → ℕ → ℕ
symbols_before_kid t i = before_kid_some (layout t.kind t.word (count t.kids)) (map symbol_count (kids_of t)) (i - 1)

-- how many symbols of a tree stand before those of the node at a path
abbrev pub symbols_before : List ℕ → Plain → ℕ
symbols_before [] t = 0
symbols_before (i ∷ is) t = symbols_before_kid t i + option_map_or (symbols_before is) (kid_at t i) 0

-- the span of pieces behind others, in bytes from 0: from their first symbol to the end of their last; no pieces have none
abbrev pub pieces_span : List Piece → List Piece → Option Span
pieces_span before [] = None
pieces_span before (p ∷ ps) = Some (record { from = length (text_of before ++ p.gap); to = length (text_of (before ++ p ∷ ps)) })

-- the span of so many symbols behind so many
abbrev pub symbols_span : List Piece → ℕ → ℕ → Option Span
symbols_span ps before n = pieces_span (take before ps) (take n (drop before ps))

-- the span of the node at a path in the printed text of the tree; none where there is no such node or it has no symbols
unfoldable pub span_at : List ℕ → Plain → Option Span
span_at path t = option_and_then (λ node. symbols_span (pieces_of t (place Tight 0)) (symbols_before path t) (symbol_count node)) (at path t)
