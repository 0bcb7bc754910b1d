-- How a text keeps the spans of its nodes: in preorder, each node before its kids, and a kid before the next one.
use Rattle.std.specs.Prelude.{◌≡◌, ℕ, suc, ◌+◌, ◌-◌, List, [], ◌∷◌, ◌++◌, Option, Some, None, length, take, sum_by}
use Rattle.std.specs.Option.{option_map_or}
use Rattle.pc_syntax.specs.declared.kind.Kind.{Kind}
use Rattle.pc_syntax.specs.declared.item.Item.{Item}
use Rattle.pc_syntax.specs.declared.item.Item.TheVariants.{Literal, Word, Kid}
use Rattle.pc_syntax.specs.Plain.{Forest, Nil, Cons, Plain, kids_of, count}
use Rattle.pc_syntax.specs.Parts.{kid_at}
use Rattle.pc_syntax.specs.Layout.{layout}
use Rattle.pc_syntax.specs.Symbols.{symbols}
use Rattle.pc_syntax.specs.WellFormed.{size_of}
use Rattle.pc_lex.specs.declared.symbol.Span.{Span}
use Rattle.pc_pretty.specs.declared.spacing.Spacing.TheVariants.{Tight}
use Rattle.pc_pretty.specs.Printed.{place, pieces_of}
use Rattle.pc_pretty.specs.Spans.{symbols_span}
use Rattle.pc_pretty.specs.Joined.{joined, StandFrom}

-- the spans of a node and all below it, where so many symbols stand before it
abbrev pub Lister : Type 0
Lister = ℕ → List (Option Span)

-- the spans below a node, item by item, with how many symbols each kid has, and its spans; so many symbols stand before
abbrev pub listed : List Item → List (ℕ × Lister) → ℕ → List (Option Span)
listed [] ps n = []
listed (Literal x ∷ is) ps n = listed is ps (suc n)
listed (Word x ∷ is) ps n = listed is ps (suc n)
listed (Kid c ∷ is) [] n = []
listed (Kid c ∷ is) (p ∷ ps) n = p.1 n ++ listed is ps (n + p.0)

abbrev pub listed_some : Option (List Item) → List (ℕ × Lister) → ℕ → List (Option Span)
listed_some None ps n = []
listed_some (Some is) ps n = listed is ps n

-- the span of so many symbols behind so many
abbrev pub Spanner : Type 0
Spanner = ℕ → ℕ → Option Span

abbrev pub node_spans : Spanner → Kind → List ℕ → Forest → List (ℕ × Lister) → Lister
node_spans span k w ks ps n = span n (length (symbols k w ks)) ∷ listed_some (layout k w (count ks)) ps n

-- the same for each of the trees
abbrev pub listers : Spanner → Forest → List (ℕ × Lister)
listers span Nil = []
listers span (Cons k w ns ks ts) = (length (symbols k w ks), node_spans span k w ks (listers span ks)) ∷ listers span ts

unfoldable pub spans_of : Spanner → Plain → Lister
spans_of span t n = node_spans span t.kind t.word t.kids (listers span t.kids) n

-- the spans of all nodes of a tree in its printed text
unfoldable pub text_spans : Plain → List (Option Span)
text_spans t = spans_of (symbols_span (pieces_of t (place Tight 0))) t 0

-- the spans of a node and all below it were added; its symbols have these, wherever they stand in a list of all
abbrev pub AddsSpans : Plain → List Span → List (Option Span) → List (Option Span) → Type 0
AddsSpans t own old new = (ss : List Span) (n : ℕ) → StandFrom ss n own → new ≡ old ++ spans_of (joined ss) t n

-- how many nodes stand before the node at a path in preorder
abbrev pub nodes_before : List ℕ → Plain → ℕ
nodes_before [] t = 0
nodes_before (i ∷ is) t = 1 + sum_by size_of (take (i - 1) (kids_of t)) + option_map_or (nodes_before is) (kid_at t i) 0
