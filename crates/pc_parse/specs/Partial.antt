-- Partial trees: trees that break off, whose symbols begin a text.
use Rattle.std.specs.Prelude.{◌≡◌, ℕ, zero, suc, ◌+◌, true, false, List, [], ◌∷◌, ◌++◌, Some}
use Rattle.pc_syntax.specs.declared.kind.Kind.{Kind}
use Rattle.pc_syntax.specs.declared.class.Class.{Class}
use Rattle.pc_syntax.specs.declared.item.Item.{Item}
use Rattle.pc_syntax.specs.declared.item.Item.TheVariants.{Literal, Word, Kid}
use Rattle.pc_syntax.specs.Plain.{Forest, Plain, count, kinds}
use Rattle.pc_syntax.specs.Layout.{layout}
use Rattle.pc_syntax.specs.Classes.{has}
use Rattle.pc_syntax.specs.Symbols.{Sym, fill, texts}
use Rattle.pc_syntax.specs.WellFormed.{fits, breaks_else_rule, WellFormed}
use Rattle.pc_parse.specs.Reading.{Reads}

-- how many kids the items have
abbrev pub kids_in : List Item → ℕ
kids_in [] = zero
kids_in (Literal x ∷ m) = kids_in m
kids_in (Word x ∷ m) = kids_in m
kids_in (Kid c ∷ m) = suc (kids_in m)

-- a node that breaks off: its items up to a place, with the whole kids in them, and the items that are left
pub record Front : Type 0 where
  pub kind : Kind
  pub word : List ℕ
  pub kids : Forest
  pub read : List Item
  pub left : List Item

-- the table allows the word and the items; each whole kid is a well-formed tree of its class, and they keep the else rule
pub record IsFront (f : Front) : Type 0 where
  pub laid : layout f.kind f.word (count f.kids + kids_in f.left) ≡ Some (f.read ++ f.left)
  pub fit : fits f.read (kinds f.kids) ≡ true
  pub formed : WellFormed f.kids
  pub rule : breaks_else_rule f.kind f.kids ≡ false

-- a node that breaks off, and then the one that it breaks off in, which is its next kid, and so on
abbrev pub Linked : Front → List Front → Type 0
Linked f [] = IsFront f
Linked f (g ∷ gs) = IsFront f × (d : Class) × (m : List Item) × (f.left ≡ Kid d ∷ m) × (has d g.kind ≡ true) × Linked g gs

-- a partial tree of a class, by the nodes that break off, from its root inwards
abbrev pub IsPartialTree : Class → List Front → Type 0
IsPartialTree c [] = ⊥
IsPartialTree c (f ∷ fs) = (has c f.kind ≡ true) × Linked f fs

-- its symbols are those of the items before the places where it breaks off
abbrev pub front_symbols : Front → List Sym
front_symbols f = fill f.read f.word (texts f.kids)

abbrev pub partial_symbols : List Front → List Sym
partial_symbols [] = []
partial_symbols (f ∷ fs) = front_symbols f ++ partial_symbols fs

-- symbols begin a text of the class where there are none, or where they are those of a tree or of a partial tree of the class
pub data Begins (c : Class) (ys : List Sym) : Type 0 where
  Nothing : ys ≡ [] → Begins c ys
  Whole : (t : Plain) → Reads c t ys → Begins c ys
  Partly : (fs : List Front) → IsPartialTree c fs → ys ≡ partial_symbols fs → Begins c ys
