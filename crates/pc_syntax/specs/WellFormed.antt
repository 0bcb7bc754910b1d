-- Which trees are well formed, and which are within the limits.
use Rattle.std.specs.Prelude.{◌≡◌, ℕ, zero, suc, ◌+◌, ◌≤◌, max, Bool, true, false, ◌&&◌, not, if◌then◌else◌, List, [], ◌∷◌, Option, Some, None}
use Rattle.std.proofs.Common.{refl}
use Rattle.std.specs.List.{list_all}
use Rattle.pc_syntax.specs.declared.kind.Kind.{Kind}
use Rattle.pc_syntax.specs.declared.kind.Kind.TheVariants.{If, Ifelse, While, For, With}
use Rattle.pc_syntax.specs.declared.item.Item.{Item}
use Rattle.pc_syntax.specs.declared.item.Item.TheVariants.{Literal, Word, Kid}
use Rattle.pc_syntax.specs.Plain.{Forest, Nil, Cons, Plain, count, kinds}
use Rattle.pc_syntax.specs.Layout.{layout}
use Rattle.pc_syntax.specs.Classes.{has}
use Rattle.pc_syntax.specs.Sorts.{bears_notes, is_hole}
use Rattle.pc_syntax.specs.Slots.{is_list}
use Rattle.pc_syntax.specs.Words.{is_comment}

-- the kids are as many as the items have, each of its class
abbrev pub fits : List Item → List Kind → Bool
fits [] [] = true
fits [] (k ∷ ks) = false
fits (Literal x ∷ is) ks = fits is ks
fits (Word x ∷ is) ks = fits is ks
fits (Kid c ∷ is) [] = false
fits (Kid c ∷ is) (k ∷ ks) = has c k && fits is ks

abbrev pub fits_some : Option (List Item) → List Kind → Bool
fits_some None ks = false
fits_some (Some is) ks = fits is ks

-- whether a node of this kind with so many kids may bear these notes
abbrev pub takes_notes : Kind → ℕ → List (List ℕ) → Bool
takes_notes k n [] = true
takes_notes k zero (c ∷ cs) = bears_notes k && not (is_list k) && list_all is_comment (c ∷ cs)
takes_notes k (suc n) (c ∷ cs) = bears_notes k && list_all is_comment (c ∷ cs)

-- whether a statement ends open, from whether its last kid does: an `else` after it would be its own
abbrev pub opens : Kind → Bool → Bool
opens If last = true
opens Ifelse last = last
opens While last = last
opens For last = last
opens With last = last
opens _ last = false

-- whether the last of the trees ends open
abbrev pub last_open : Forest → Bool
last_open Nil = false
last_open (Cons k w ns ks Nil) = opens k (last_open ks)
last_open (Cons k w ns ks (Cons j v ms js ts)) = last_open (Cons j v ms js ts)

-- whether the second of the trees ends open
abbrev pub second_open : Forest → Bool
second_open Nil = false
second_open (Cons k w ns ks Nil) = false
second_open (Cons k w ns ks (Cons j v ms js ts)) = opens j (last_open js)

-- the statement between `then` and `else` doesn't end open
abbrev pub breaks_else_rule : Kind → Forest → Bool
breaks_else_rule Ifelse ks = second_open ks
breaks_else_rule _ ks = false

-- every node has the word, the notes and the kids that its kind allows, and keeps the else rule
abbrev pub WellFormed : Forest → Type 0
WellFormed Nil = Unit {0}
WellFormed (Cons k w ns ks ts) =
    (fits_some (layout k w (count ks)) (kinds ks) ≡ true) × (takes_notes k (count ks) ns ≡ true) × (breaks_else_rule k ks ≡ false) × WellFormed ks × WellFormed ts

abbrev pub IsWellFormed : Plain → Type 0
IsWellFormed p = WellFormed (Cons p.kind p.word p.notes p.kids Nil)

-- how many nodes there are
unfoldable pub size_in : Forest → ℕ
size_in Nil = 0
size_in (Cons k w ns ks ts) = 1 + size_in ks + size_in ts

abbrev pub size_of : Plain → ℕ
size_of p = 1 + size_in p.kids

-- how many nodes the longest way down has
unfoldable pub depth_in : Forest → ℕ
depth_in Nil = 0
depth_in (Cons k w ns ks ts) = max (1 + depth_in ks) (depth_in ts)

abbrev pub depth_of : Plain → ℕ
depth_of p = 1 + depth_in p.kids

-- how many holes there are
unfoldable pub holes_in : Forest → ℕ
holes_in Nil = 0
holes_in (Cons k w ns ks ts) = (if is_hole k then 1 else 0) + holes_in ks + holes_in ts

abbrev pub holes_of : Plain → ℕ
holes_of p = (if is_hole p.kind then 1 else 0) + holes_in p.kids

-- the most levels of a tree
abbrev pub depth_limit : ℕ
depth_limit = 256

-- the most nodes of a tree
unfoldable pub size_limit : ℕ
size_limit = 1000000

pub size_limit-is : size_limit ≡ 1000000
unfolding size_limit
size_limit-is = refl

-- a tree that may be made: well formed and within the limits
pub record IsProper (p : Plain) : Type 0 where
  pub sound : IsWellFormed p
  pub shallow : depth_of p ≤ depth_limit
  pub small : size_of p ≤ size_limit
