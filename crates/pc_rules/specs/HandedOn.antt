-- What the kids of a node have together, and nodes that only hand it on.
use Rattle.std.specs.Prelude.{ℕ, Bool, false, ◌||◌, List, [], ◌∷◌, None, ◌++◌}
use Rattle.pc_types.specs.Shapes.{Owner, Typed}
use Rattle.pc_rules.specs.Attributes.{Entry, Judged, Attributes, Node, plain, judged, each_kid}
use Rattle.pc_rules.specs.Meanings.{Meaning}

-- the entries of kids as values, the first of which is kid i
abbrev pub kid_entries : ℕ → List Node → List Entry
kid_entries i ks = each_kid (λ k. k.as_value.entries) i ks

-- whether a hole stands in one of them
abbrev pub any_hole : List Node → Bool
any_hole [] = false
any_hole (k ∷ ks) = k.hole || any_hole ks

-- the variables that they assign, read, pass as variable arguments or control
abbrev pub all_touches : List Node → List (Owner × List ℕ)
all_touches [] = []
all_touches (k ∷ ks) = k.touches ++ all_touches ks

-- what they declare, in text order
abbrev pub all_defines : List Node → List (List ℕ × Meaning)
all_defines [] = []
all_defines (k ∷ ks) = k.defines ++ all_defines ks

-- the fields that they open, those of the last one first
abbrev pub all_opens : List Node → List (List ℕ × (Typed × Bool))
all_opens [] = []
all_opens (k ∷ ks) = all_opens ks ++ k.opens

-- a node that only hands on what its kids have
abbrev pub handed_on : List Node → Attributes
handed_on kids = record plain { hole = any_hole kids; touches = all_touches kids; as_value = judged (any_hole kids) (kid_entries 1 kids) None }

-- a node that has this judgement wherever it stands
abbrev pub in_all : Judged → Attributes → Attributes
in_all j a = record a { as_value = j; as_place = j; as_target = j }

-- a statement with its own entries and its kids', and the variables that it touches itself
abbrev pub statement_node : List Node → List Entry → List (Owner × List ℕ) → Attributes
statement_node kids entries touched = record (handed_on kids) { as_value = judged (any_hole kids) entries None; touches = all_touches kids ++ touched }
