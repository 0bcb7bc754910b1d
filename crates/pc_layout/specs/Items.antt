-- The items that code has of a node.
use Rattle.std.specs.Prelude.{List, [], ◌∷◌, Option, Some, None}
use Rattle.pc_syntax.specs.declared.lexeme.Lexeme.{Lexeme}
use Rattle.pc_syntax.specs.declared.class.Class.{Class}
use Rattle.pc_syntax.specs.declared.item.Item.{Item}
use Rattle.pc_syntax.specs.declared.item.Item.TheVariants.{Literal, Kid}
use Rattle.pc_layout.specs.declared.items.Items.{Items}
use Rattle.pc_layout.specs.declared.items.Items.TheVariants.{Fixed, Made}

-- the items, however they are kept
abbrev pub items_of : Items → List Item
items_of (Fixed items) = items.now
items_of (Made items) = items.items

-- one further element of a list, behind its separator where there is one
abbrev pub one_more : Option Lexeme → Class → List Item
one_more None c = Kid c ∷ []
one_more (Some x) c = Literal x ∷ Kid c ∷ []
