-- The symbols of a tree, kid after kid, as its layout names them.
use Rattle.std.specs.Prelude.{ℕ, List, [], ◌∷◌, ◌++◌, Option, Some, None}
use Rattle.pc_syntax.specs.declared.lexeme.Lexeme.{Lexeme}
use Rattle.pc_syntax.specs.declared.kind.Kind.{Kind}
use Rattle.pc_syntax.specs.declared.item.Item.{Item}
use Rattle.pc_syntax.specs.declared.item.Item.TheVariants.{Literal, Word, Kid}
use Rattle.pc_syntax.specs.Plain.{Forest, Nil, Cons, Plain, count}
use Rattle.pc_syntax.specs.Layout.{layout}

-- a symbol: what it is, and its spelling where it is a name, a numeral or a text
pub record Sym : Type 0 where
  pub lexeme : Lexeme
  pub spelling : List ℕ

-- what items spell, with the node's word and the symbols of its kids
abbrev pub fill : List Item → List ℕ → List (List Sym) → List Sym
fill [] w ts = []
fill (Literal x ∷ is) w ts = record { lexeme = x; spelling = [] } ∷ fill is w ts
fill (Word x ∷ is) w ts = record { lexeme = x; spelling = w } ∷ fill is w ts
fill (Kid c ∷ is) w [] = []
fill (Kid c ∷ is) w (t ∷ ts) = t ++ fill is w ts

abbrev pub fill_some : Option (List Item) → List ℕ → List (List Sym) → List Sym
fill_some None w ts = []
fill_some (Some is) w ts = fill is w ts

-- the symbols of each tree
abbrev pub texts : Forest → List (List Sym)
texts Nil = []
texts (Cons k w ns ks ts) = fill_some (layout k w (count ks)) w (texts ks) ∷ texts ts

-- the symbols of a node
abbrev pub symbols : Kind → List ℕ → Forest → List Sym
symbols k w ks = fill_some (layout k w (count ks)) w (texts ks)

-- the symbols of a tree
abbrev pub symbols_of : Plain → List Sym
symbols_of p = symbols p.kind p.word p.kids
