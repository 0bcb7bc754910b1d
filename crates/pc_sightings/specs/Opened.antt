-- The fields of the records that the withs around have opened (ISO 7185, 6.8.3.10).
use Rattle.std.specs.Prelude.{◌≡◌, ◌++◌, ℕ, Bool, List, [], ◌∷◌, Option, Some, None, reverse}
use Rattle.pc_types.specs.Shapes.{Typed}
use Rattle.pc_types.specs.Table.{Table}
use Rattle.pc_types.specs.declared.operand.Operand.{Operand}
use Rattle.pc_rules.specs.Variables.{opened_by}
use Rattle.pc_facts.specs.Shows.{ShowsType}

-- the types of accesses, the innermost first, open these fields; one that is no record opens none
abbrev pub OpenedFrom : Table → List Operand → List (List ℕ × (Typed × Bool)) → Type 0
OpenedFrom t [] fields = fields ≡ []
OpenedFrom t (o ∷ os) fields =
    (ty : Typed) × (outer : List (List ℕ × (Typed × Bool))) × ShowsType t (Some o) (Some ty) × (fields ≡ opened_by (Some ty) ++ outer) × OpenedFrom t os outer

-- the same where the innermost is the last
abbrev pub ShowsOpened : Table → List Operand → List (List ℕ × (Typed × Bool)) → Type 0
ShowsOpened t opened fields = OpenedFrom t (reverse opened) fields

-- what an access whose type may be unknown puts on the stack
abbrev pub pushed : Option Operand → List Operand
pushed None = []
pushed (Some o) = o ∷ []

-- the type of a field by its number, and whether its record is packed; or there is no such field
abbrev pub ShowsField : Table → Option (Operand × Bool) → Option (Typed × Bool) → Type 0
ShowsField t None None = Unit {0}
ShowsField t (Some p) (Some f) = ShowsType t (Some p.0) (Some f.0) × (p.1 ≡ f.1)
ShowsField t _ _ = ⊥
