-- Which notes stand before each symbol of a tree: those of the node that begins there and bears notes, and else none.
use Rattle.std.specs.Prelude.{List, [], ◌∷◌, ◌++◌, Option, Some, None}
use Rattle.pc_syntax.specs.declared.item.Item.{Item}
use Rattle.pc_syntax.specs.declared.item.Item.TheVariants.{Literal, Word, Kid}
use Rattle.pc_syntax.specs.Plain.{Forest, Nil, Cons, Plain, count}
use Rattle.pc_syntax.specs.Layout.{layout}
use Rattle.pc_layout.specs.Noted.{Notes}

-- these notes before the first symbol, and before those that stand there already
abbrev pub headed : Notes → List Notes → List Notes
headed ns [] = []
headed ns (m ∷ ms) = (ns ++ m) ∷ ms

-- before the symbols of items, where before those of the kids these stand
abbrev pub fill_notes : List Item → List (List Notes) → List Notes
fill_notes [] ts = []
fill_notes (Literal x ∷ is) ts = [] ∷ fill_notes is ts
fill_notes (Word x ∷ is) ts = [] ∷ fill_notes is ts
fill_notes (Kid c ∷ is) [] = []
fill_notes (Kid c ∷ is) (t ∷ ts) = t ++ fill_notes is ts

abbrev pub fill_some_notes : Option (List Item) → List (List Notes) → List Notes
fill_some_notes None ts = []
fill_some_notes (Some is) ts = fill_notes is ts

-- before the symbols of each tree
abbrev pub forest_notes : Forest → List (List Notes)
forest_notes Nil = []
forest_notes (Cons k w ns ks ts) = headed ns (fill_some_notes (layout k w (count ks)) (forest_notes ks)) ∷ forest_notes ts

-- before the symbols of a tree
abbrev pub tree_notes : Plain → List Notes
tree_notes t = headed t.notes (fill_some_notes (layout t.kind t.word (count t.kids)) (forest_notes t.kids))
