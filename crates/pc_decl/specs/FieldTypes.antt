-- The type of a field, by the place of its name (ISO 7185, 6.4.3.3).
use Rattle.std.specs.Prelude.{ℕ, Bool, true, false, if◌then◌else◌, List, [], ◌∷◌, ◌++◌, Option, Some, None}
use Rattle.std.specs.Option.{option_map, option_map_or, option_and_then}
use Rattle.std.specs.List.{flat_map}
use Rattle.pc_syntax.specs.declared.kind.Kind.{Kind}
use Rattle.pc_types.specs.Shapes.{Domain, Shape, RecordType, Typed}
use Rattle.pc_types.specs.Domains.{field_in, closed}
use Rattle.pc_rules.specs.Meanings.{Class, TypeName, Meaning}
use Rattle.pc_rules.specs.Attributes.{Attributes}
use Rattle.pc_decl.specs.Nodes.{above, kind_at}
use Rattle.pc_decl.specs.Annotated.{Annotation, Annotated}
use Rattle.pc_decl.specs.Found.{routine_around, attributes_at}
use Rattle.pc_syntax.specs.declared.kind.Kind.TheVariants as kind

-- the structure of a type
abbrev pub shape_of : Option Typed → Option Shape
shape_of t = option_map (λ (u : Typed). u.shape) t

-- what is reached from a type
abbrev pub reached_from : Option Typed → List Domain
reached_from t = option_map_or (λ (u : Typed). u.domains) t []

-- a type that has this name, and what is reached from it
abbrev pub domains_named : Class → List ℕ × Meaning → List Domain
domains_named TypeName d = record { owner = d.1.owner; name = d.0; shape = shape_of d.1.type } ∷ reached_from d.1.type
domains_named c d = []

-- the types that a routine declares, and what is reached from them
abbrev pub domains_declared : Annotation → List Domain
domains_declared r = flat_map (λ (d : List ℕ × Meaning). domains_named d.1.class d) r.ending.known

-- a type that stands in a routine's block, by all that the block declares; none where it has an error or a hole
abbrev pub completed_in : Annotation → Typed → Option Typed
completed_in r t = closed (domains_declared r ++ t.domains) (Some t.shape)

-- the type of the denoter at a place
abbrev pub denoted_at : Annotated → List ℕ → Option Typed
denoted_at p q = option_and_then (λ (r : Annotation). option_and_then (λ (a : Attributes). option_and_then (completed_in r) a.as_value.type) (attributes_at p q)) (routine_around p q)

-- the type of the field of a record type that has this name
abbrev pub field_shape : List ℕ → Shape → Option Shape
field_shape n (RecordType d p fs) = field_in fs n
field_shape n t = None

-- whether the node at a place is a name of a field: it stands in the list of names of that
abbrev pub is_field_kind : Kind → Bool
is_field_kind kind.Field = true
is_field_kind k = false

-- the place of the record that has the field with a name at a place: the name stands in a list of a field of a list of that
abbrev pub record_around : List ℕ → List ℕ
record_around q = above (above (above (above q)))

-- the type of the field with this name, if the name at the place is that of a field
abbrev pub field_shape_at : Annotated → List ℕ → List ℕ → Option Shape
field_shape_at p n q =
    if is_field_kind (kind_at p.tree (above (above q))) then option_and_then (λ (t : Typed). field_shape n t.shape) (denoted_at p (record_around q)) else None
