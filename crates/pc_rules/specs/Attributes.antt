-- What is found at each node of a block, and the kids of a node as they are found.
use Rattle.std.specs.Prelude.{ℕ, Bool, true, false, not, ◌||◌, if◌then◌else◌, List, [], ◌∷◌, Option, None, ◌++◌, get_or, suc}
use Rattle.pc_syntax.specs.declared.kind.Kind.{Kind}
use Rattle.pc_types.specs.Shapes.{Owner, Typed}
use Rattle.pc_rules.specs.Meanings.{Value, Meaning, Found, Missing}
use Rattle.pc_syntax.specs.declared.kind.Kind.TheVariants as kind

-- an entry of the error list: its place from the node on, its row in the table, its text
pub record Entry : Type 0 where
  pub place : List ℕ
  pub row : ℕ
  pub text : List ℕ

-- the entries of a part, and its type if it has neither an error nor a hole
pub record Judged : Type 0 where
  pub entries : List Entry
  pub type : Option Typed

-- a node: what it is, whether a hole stands in it; as a used name what it means, and whether a routine in the block changes that
-- variable; its judgement where a value is needed, where a variable is, and where it is the target of an assignment; a constant's
-- value; what it declares; the fields that it opens for a with, the innermost first; the variable that it names as a whole; whether
-- it is a component of something packed; the variables that it assigns, reads, passes as variable arguments or controls
pub record Attributes : Type 0 where
  pub kind : Kind
  pub word : List ℕ
  pub hole : Bool
  pub found : Found
  pub changed : Bool
  pub as_value : Judged
  pub as_place : Judged
  pub as_target : Judged
  pub constant : Option Value
  pub defines : List (List ℕ × Meaning)
  pub opens : List (List ℕ × (Typed × Bool))
  pub variable : List (Owner × List ℕ)
  pub packed_part : Bool
  pub touches : List (Owner × List ℕ)

-- trees in a row, each node with its attributes
pub data Marked : Type 0 where
  Done : Marked
  Mark : Attributes → Marked → Marked → Marked

-- a kid of a node: its attributes, which are read as its own, and what is below it
pub record Node : Type 0 where
  pub at : Attributes
  pub open at use *
  pub below : Marked

-- no entry and no type
abbrev pub nothing : Judged
nothing = record { entries = []; type = None }

-- a node about which nothing is to be said; its kind and word are put in by `rule`
abbrev pub plain : Attributes
plain = record {
  kind = kind.Empty;
  word = [];
  hole = false;
  found = Missing;
  changed = false;
  as_value = nothing;
  as_place = nothing;
  as_target = nothing;
  constant = None;
  defines = [];
  opens = [];
  variable = [];
  packed_part = false;
  touches = [];
}

-- the trees of a row as nodes
abbrev pub nodes : Marked → List Node
nodes Done = []
nodes (Mark a below rest) = record { at = a; below = below } ∷ nodes rest

-- what stands for a kid that isn't there; a well-formed tree has all of them
abbrev pub missing : Node
missing = record { at = plain; below = Done }

-- the kids of a kid
abbrev pub kids_below : Node → List Node
kids_below n = nodes n.below

-- its first kid
abbrev pub first_below : Node → Node
first_below n = get_or (kids_below n) 0 missing

-- its second kid
abbrev pub second_below : Node → Node
second_below n = get_or (kids_below n) 1 missing

-- the attributes of the first tree in a row
abbrev pub first : Marked → Attributes
first Done = plain
first (Mark a below rest) = a

-- whether a list of entries is empty
abbrev pub is_empty : List Entry → Bool
is_empty [] = true
is_empty (e ∷ es) = false

-- what its parts make of a node: no type where there is an entry or a hole
abbrev pub judged : Bool → List Entry → Option Typed → Judged
judged hole entries type = record { entries = entries; type = if hole || not (is_empty entries) then None else type }

-- the entries of kid i, seen from the node
abbrev pub at_kid : ℕ → List Entry → List Entry
at_kid i [] = []
at_kid i (e ∷ es) = record e { place = i ∷ e.place } ∷ at_kid i es

-- the entries of kids, the first of which is kid i, given those of a kid by itself
abbrev pub each_kid : (Node → List Entry) → ℕ → List Node → List Entry
each_kid entries i [] = []
each_kid entries i (k ∷ ks) = at_kid i (entries k) ++ each_kid entries (suc i) ks
