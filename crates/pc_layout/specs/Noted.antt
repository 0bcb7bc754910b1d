-- The notes of a tree: those of the symbols with which its nodes begin. The notes of a symbol are the comments directly
-- before it, each as it is written.
use Rattle.std.specs.Prelude.{◌≡◌, ℕ, zero, suc, ◌+◌, Bool, ◌&&◌, not, if◌then◌else◌, List, [], ◌∷◌, Option, Some, None, map, length, take, drop}
use Rattle.pc_syntax.specs.declared.kind.Kind.{Kind}
use Rattle.pc_syntax.specs.declared.item.Item.{Item}
use Rattle.pc_syntax.specs.declared.item.Item.TheVariants.{Literal, Word, Kid}
use Rattle.pc_syntax.specs.Plain.{Forest, Nil, Cons, Plain, count}
use Rattle.pc_syntax.specs.Layout.{layout}
use Rattle.pc_syntax.specs.Symbols.{texts}
use Rattle.pc_syntax.specs.Sorts.{bears_notes}
use Rattle.pc_syntax.specs.Slots.{is_list}

-- the notes of a symbol
abbrev pub Notes : Type 0
Notes = List (List ℕ)

-- those of the first symbol
abbrev pub first_notes : List Notes → Notes
first_notes [] = []
first_notes (n ∷ ns) = n

-- whether a node of this kind with so many kids bears notes
abbrev pub keeps_notes : Kind → ℕ → Bool
keeps_notes k zero = bears_notes k && not (is_list k)
keeps_notes k (suc n) = bears_notes k

-- the notes that such a node bears, where its symbols have these
abbrev pub own_notes : Kind → ℕ → List Notes → Notes
own_notes k n ns = if keeps_notes k n then first_notes ns else []

-- the notes of each kid's symbols, where the kids have so many symbols and the symbols of these items have these notes
abbrev pub portions : List Item → List ℕ → List Notes → List (List Notes)
portions [] ls ns = []
portions (Literal x ∷ is) ls ns = portions is ls (drop 1 ns)
portions (Word x ∷ is) ls ns = portions is ls (drop 1 ns)
portions (Kid c ∷ is) [] ns = []
portions (Kid c ∷ is) (l ∷ ls) ns = take l ns ∷ portions is ls (drop l ns)

abbrev pub portions_some : Option (List Item) → List ℕ → List Notes → List (List Notes)
portions_some None ls ns = []
portions_some (Some is) ls ns = portions is ls ns

-- the notes of the symbols of each kid of a node
abbrev pub kid_notes : Kind → List ℕ → Forest → List Notes → List (List Notes)
kid_notes k w ks ns = portions_some (layout k w (count ks)) (map length (texts ks)) ns

abbrev pub first_of : List (List Notes) → List Notes
first_of [] = []
first_of (n ∷ ns) = n

abbrev pub rest_of : List (List Notes) → List (List Notes)
rest_of [] = []
rest_of (n ∷ ns) = ns

-- the trees with other notes: each node that bears notes has those of its first symbol; the symbols of each tree have these
abbrev pub noted : Forest → List (List Notes) → Forest
noted Nil nss = Nil
noted (Cons k w ms ks ts) nss = Cons k w (own_notes k (count ks) (first_of nss)) (noted ks (kid_notes k w ks (first_of nss))) (noted ts (rest_of nss))

-- the same of one tree
abbrev pub noted_tree : Plain → List Notes → Plain
noted_tree t ns = record { kind = t.kind; word = t.word; notes = own_notes t.kind (count t.kids) ns; kids = noted t.kids (kid_notes t.kind t.word t.kids ns) }

-- each node of the tree that bears notes has exactly those of its first symbol, and no other node has any
abbrev pub HasNotes : Plain → List Notes → Type 0
HasNotes t ns = t ≡ noted_tree t ns

-- the tree without notes
abbrev pub unnoted : Plain → Plain
unnoted t = noted_tree t []

-- how many notes the trees have
unfoldable pub notes_in : Forest → ℕ
notes_in Nil = 0
notes_in (Cons k w ns ks ts) = length ns + notes_in ks + notes_in ts

abbrev pub notes_of : Plain → ℕ
notes_of t = length t.notes + notes_in t.kids
