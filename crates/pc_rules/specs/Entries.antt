-- Entries of the error list, and how a node has those of its kids.
use Rattle.std.specs.Prelude.{ℕ, Bool, not, if◌then◌else◌, List, [], ◌∷◌, Option, Some, None, codes, ◌++◌}
use Rattle.pc_types.specs.TypeClasses.{is_ordinal}
use Rattle.pc_types.specs.Compatibility.{assignable}
use Rattle.pc_types.specs.Shapes.{Shape, Typed}
use Rattle.pc_rules.specs.Attributes.{Entry}

-- one entry at the node itself
abbrev pub note : ℕ → List ℕ → List Entry
note row text = record { place = []; row = row; text = text } ∷ []

-- that entry where the condition holds
abbrev pub note_if : Bool → ℕ → List ℕ → List Entry
note_if b row text = if b then note row text else []

-- a text with the name that it speaks of, as written
abbrev pub quoted : List ℕ → List ℕ → List ℕ
quoted text w = text ++ codes ": " ++ w

-- row 11
abbrev pub disagree : List Entry
disagree = note 11 (codes "types do not agree")

-- row 12
abbrev pub wrong_number : List Entry
wrong_number = note 12 (codes "wrong number of arguments")

-- row 8, where the type is known
abbrev pub no_ordinal : Option Typed → List Entry
no_ordinal None = []
no_ordinal (Some t) = note_if (not (is_ordinal t.shape)) 8 (codes "not an ordinal type")

-- row 11 where both types are known and the second may not be assigned to the first
abbrev pub unassignable : Option Shape → Option Typed → List Entry
unassignable (Some to) (Some from) = if assignable to from.shape then [] else disagree
unassignable _ _ = []

-- these entries where the type is known and the test doesn't hold of it
abbrev pub unless : (Shape → Bool) → Option Typed → List Entry → List Entry
unless fits None entries = []
unless fits (Some t) entries = if fits t.shape then [] else entries
