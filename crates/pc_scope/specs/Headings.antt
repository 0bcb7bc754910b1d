-- Headings of routines, and which forward routine a later declaration completes (ISO 7185, 6.6.1, 6.6.2).
use Rattle.std.specs.Prelude.{ℕ, Bool, true, false, not, ◌&&◌, ◌||◌, ◌==◌, if◌then◌else◌, List, [], ◌∷◌, length}
use Rattle.std.specs.Str.{bytes_eq}
use Rattle.pc_syntax.specs.declared.kind.Kind.{Kind}
use Rattle.pc_syntax.specs.Plain.{Forest, Nil, Cons}
use Rattle.pc_syntax.specs.Sorts.{is_hole}
use Rattle.pc_syntax.specs.Words.{lowered}
use Rattle.pc_syntax.specs.declared.kind.Kind.TheVariants as kind

-- the heading of a routine, as far as it counts for pairing forward routines with their later declarations
pub record Heading : Type 0 where
  pub name : List ℕ
  pub is_function : Bool
  pub is_forward : Bool

-- whether a routine of this kind is a function
abbrev pub is_function_kind : Kind → Bool
is_function_kind kind.Function = true
is_function_kind kind.Funbody = true
is_function_kind _ = false

-- whether a node of this kind is a routine
abbrev pub is_routine_kind : Kind → Bool
is_routine_kind kind.Procedure = true
is_routine_kind k = is_function_kind k

-- whether a routine's block, its last kid, is a forward
abbrev pub ends_forward : Forest → Bool
ends_forward Nil = false
ends_forward (Cons kind.Forward w ns ks ts) = true
ends_forward (Cons k w ns ks ts) = ends_forward ts

-- the name of the first node, in small letters, and nothing where it is a hole
abbrev pub first_name : Forest → List ℕ
first_name Nil = []
first_name (Cons k w ns ks ts) = if is_hole k then [] else lowered w

-- the heading of a routine with this kind and these kids
abbrev pub heading_of : Kind → Forest → Heading
heading_of k ks = record { name = first_name ks; is_function = is_function_kind k; is_forward = is_routine_kind k && ends_forward ks }

-- the headings of some routines, in order
abbrev pub headings_in : Forest → List Heading
headings_in Nil = []
headings_in (Cons k w ns ks ts) = heading_of k ks ∷ headings_in ts

-- whether two routines are both functions or both procedures
abbrev pub same_side : Bool → Bool → Bool
same_side true b = b
same_side false b = not b

-- whether two routines have one name and are both procedures or both functions; a hole is no name
abbrev pub pairs : Heading → Heading → Bool
pairs a b = not (length a.name == 0) && bytes_eq a.name b.name && same_side a.is_function b.is_function

-- whether a heading pairs with one of these
abbrev pub any_pairs : Heading → List Heading → Bool
any_pairs h [] = false
any_pairs h (g ∷ gs) = pairs h g || any_pairs h gs

-- whether a routine that is no forward stands behind, and pairs with it
abbrev pub has_later : Heading → List Heading → Bool
has_later h [] = false
has_later h (g ∷ gs) = (pairs h g && not g.is_forward) || has_later h gs

-- these headings but for those that pair with the first
abbrev pub without_pairs : Heading → List Heading → List Heading
without_pairs h [] = []
without_pairs h (g ∷ gs) = if pairs h g then without_pairs h gs else g ∷ without_pairs h gs

-- the names of a list, in small letters; a hole is none
abbrev pub names_of : Forest → List (List ℕ)
names_of Nil = []
names_of (Cons k w ns ks ts) = if is_hole k then names_of ts else lowered w ∷ names_of ts

-- the names of the list that stands first
abbrev pub names_of_first : Forest → List (List ℕ)
names_of_first Nil = []
names_of_first (Cons k w ns ks ts) = names_of ks
