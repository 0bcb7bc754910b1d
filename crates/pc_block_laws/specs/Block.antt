-- What the targets say of the names of a block, and what a block has of types when these are closed (ISO 7185, 6.4.4).
use Rattle.std.specs.Prelude.{◌≡◌, ℕ, Bool, true, if◌then◌else◌, List, [], ◌∷◌, ◌++◌, Option, Some, None}
use Rattle.std.specs.Option.{is_some}
use Rattle.pc_syntax.specs.Plain.{Plain, Forest, Nil, Cons}
use Rattle.pc_syntax.specs.Sorts.{is_hole}
use Rattle.pc_syntax.specs.Words.{lowered, is_among}
use Rattle.pc_types.specs.Shapes.{Shape}
use Rattle.pc_types.specs.Domains.{domain_in}
use Rattle.pc_rules.specs.ClosedTypes.{own_domains, close_types}
use Rattle.pc_rules.specs.Meanings.{Meaning, Local, entry_of}
use Rattle.pc_rules.specs.NameClasses.{is_type_class}
use Rattle.pc_rules.specs.RequiredMeanings.{required_type}

-- what the types of a block say of a name that the block declares somewhere; of the other names the program's own block has the required
-- types, and no block has anything else
abbrev pub block_says : Bool → Local → List ℕ → Option Shape
block_says is_program l n = if is_some (entry_of l.names n) then domain_in (own_domains l.known) l.owner n else (if is_program then required_type n else None)

-- the same once the types are closed: what the targets say
abbrev pub block_targets : Bool → Local → List ℕ → Option Shape
block_targets is_program l n = if is_some (entry_of l.names n) then domain_in (own_domains (close_types l).known) l.owner n else (if is_program then required_type n else None)

-- each name stands once among these declarations
abbrev pub OnceEach : List (List ℕ × Meaning) → Type 0
OnceEach [] = Unit {0}
OnceEach (d ∷ ds) = (entry_of ds d.0 ≡ None) × OnceEach ds

-- the name that stands first among some nodes, in small letters; a hole is none
abbrev pub name_in_front : Forest → List (List ℕ)
name_in_front Nil = []
name_in_front (Cons k w ns ks ts) = if is_hole k then [] else lowered w ∷ []

-- the names of some type definitions
abbrev pub type_names : Forest → List (List ℕ)
type_names Nil = []
type_names (Cons k w ns ks ts) = name_in_front ks ++ type_names ts

-- the types that a block knows are its own, it declares their names somewhere, and definitions of this list name them
abbrev pub OwnTypes : Plain → Local → Type 0
OwnTypes list l = (n : List ℕ) (m : Meaning) → entry_of l.known n ≡ Some m → is_type_class m.class ≡ true → (m.owner ≡ l.owner) × (is_among (type_names list.kids) n ≡ true) × (is_some (entry_of l.names n) ≡ true)
