-- What is made of a tree when its nodes get their notes.
use Rattle.std.specs.Prelude.{◌≡◌, ℕ, ◌+◌, ◌-◌, ◌^◌, ◌≤◌, min, Bool, true, false, List, ◌++◌, length, take, drop, unwrap_or}
use Rattle.pc_syntax.specs.declared.item.Item.{Item}
use Rattle.pc_syntax.specs.declared.item.Item.TheVariants.{Literal, Word, Kid}
use Rattle.pc_syntax.specs.Plain.{Plain, trees_of, kids_of}
use Rattle.pc_syntax.specs.Symbols.{symbols_of}
use Rattle.pc_layout.specs.Noted.{Notes, noted_tree, notes_of, notes_in}
use Rattle.pc_parse.specs.declared.notes.Placed.{Placed}

-- how many symbols a tree has
abbrev pub breadth : Plain → ℕ
breadth t = length (symbols_of t)

-- the tree with its notes, where all symbols have these and its own begin at a place, counted from 0
abbrev pub placed : Plain → List Notes → ℕ → Plain
placed t all start = noted_tree t (take (breadth t) (drop start all))

-- a number as it is kept: one over the last number of its type is that
abbrev pub kept : ℕ → ℕ
kept n = min n (2 ^ 64 - 1)

-- what is told of the tree with its notes
pub record IsPlaced (t : Plain) (all : List Notes) (start : ℕ) (p : Placed) : Type 0 where
  pub tree : unwrap_or p.tree t ≡ placed t all start
  pub end : p.end ≡ start + breadth t
  pub count : p.count ≡ kept (notes_of (placed t all start))

-- the first kids of a node with their notes: of so many, those after the ones that were made are as they were
abbrev pub row : List Plain → List Plain → ℕ → List Plain
row made kids number = made ++ drop (length made) (take number kids)

-- the kids of a node have their notes, so many in all, and its symbols end at this place
pub record IsWhole (t : Plain) (all : List Notes) (start : ℕ) (made : List Plain) (at below : ℕ) : Type 0 where
  pub few : length made ≤ length (kids_of t)
  pub kids : row made (kids_of t) (length (kids_of t)) ≡ trees_of (placed t all start).kids
  pub end : at ≡ start + breadth t
  pub count : below ≡ kept (notes_in (placed t all start).kids)

-- whether an item is a kid
abbrev pub is_kid : Item → Bool
is_kid (Literal x) = false
is_kid (Word x) = false
is_kid (Kid c) = true
