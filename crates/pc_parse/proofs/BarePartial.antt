-- Partial trees without notes, as the reading machine has them.
use Rattle.std.specs.Prelude.{◌≡◌, ◌+◌, true, false, List, [], ◌∷◌, ◌++◌, Some}
use Rattle.pc_syntax.specs.declared.class.Class.{Class}
use Rattle.pc_syntax.specs.declared.item.Item.{Item}
use Rattle.pc_syntax.specs.declared.item.Item.TheVariants.{Kid}
use Rattle.pc_syntax.specs.Plain.{Plain, count, kinds}
use Rattle.pc_syntax.specs.Layout.{layout}
use Rattle.pc_syntax.specs.Classes.{has}
use Rattle.pc_syntax.specs.Symbols.{Sym}
use Rattle.pc_syntax.specs.WellFormed.{fits, breaks_else_rule}
use Rattle.pc_parse.specs.Partial.{kids_in, Front, partial_symbols}
use Rattle.pc_parse.specs.Reading.{Good, ReadsBare}

-- the table allows the word and the items; each whole kid is a well-formed tree of its class, and they keep the else rule
pub record IsFront (f : Front) : Type 0 where
  pub laid : layout f.kind f.word (count f.kids + kids_in f.left) ≡ Some (f.read ++ f.left)
  pub fit : fits f.read (kinds f.kids) ≡ true
  pub good : Good f.kids
  pub rule : breaks_else_rule f.kind f.kids ≡ false

-- a node that breaks off, and then the one that it breaks off in, which is its next kid, and so on
abbrev pub Linked : Front → List Front → Type 0
Linked f [] = IsFront f
Linked f (g ∷ gs) = IsFront f × (d : Class) × (m : List Item) × (f.left ≡ Kid d ∷ m) × (has d g.kind ≡ true) × Linked g gs

-- a partial tree of a class, by the nodes that break off, from its root inwards
abbrev pub IsPartialTree : Class → List Front → Type 0
IsPartialTree c [] = ⊥
IsPartialTree c (f ∷ fs) = (has c f.kind ≡ true) × Linked f fs

-- symbols begin a text of the class where there are none, or where they are those of a tree or of a partial tree of the class
pub data Begins (c : Class) (ys : List Sym) : Type 0 where
  Nothing : ys ≡ [] → Begins c ys
  Whole : (t : Plain) → ReadsBare c t ys → Begins c ys
  Partly : (fs : List Front) → IsPartialTree c fs → ys ≡ partial_symbols fs → Begins c ys
