-- Record types and the names of their fields, by their places (ISO 7185, 6.4.3.3).
use Rattle.std.specs.Prelude.{ℕ, List, [], ◌∷◌, ◌++◌, Option, Some, None, suc}
use Rattle.std.specs.Option.{option_and_then, option_map}
use Rattle.std.specs.List.{find, flat_map}
use Rattle.std.specs.Str.{bytes_eq}
use Rattle.pc_syntax.specs.declared.kind.Kind.{Kind}
use Rattle.pc_syntax.specs.Plain.{Plain, Forest, Nil, Cons}
use Rattle.pc_types.specs.Shapes.{Definition, Shape, RecordType, Typed}
use Rattle.pc_types.specs.Sameness.{same_definition}
use Rattle.pc_scope.specs.Declarations.{Declared, names_below}
use Rattle.pc_rules.specs.Meanings.{Local}
use Rattle.pc_rules.specs.Attributes.{Marked, Done, Mark}
use Rattle.pc_rules.specs.Places.{inner, beside}
use Rattle.pc_rules.specs.Denoters.{defined_here}
use Rattle.pc_rules.specs.Routines.{start_of}
use Rattle.pc_decl.specs.Nodes.{kids_at}
use Rattle.pc_decl.specs.Annotated.{Annotation, Annotated}
use Rattle.pc_decl.specs.Roles.{expression_type}
use Rattle.pc_syntax.specs.declared.kind.Kind.TheVariants as kind

-- a record type: its definition, and the place of its denoter
pub record RecordAt : Type 0 where
  pub definition : Definition
  pub place : List ℕ

-- the record type that the node at a place is, if it is one; it stands here in its block
abbrev pub record_here : Local → Kind → List ℕ → List RecordAt
record_here l kind.Record p = record { definition = defined_here l; place = p } ∷ []
record_here l k p = []

-- the record types among kids of the node at a place and below them, from where the first kid stands, given what is found at them
abbrev pub records_among : List ℕ → Local → Forest → Marked → List RecordAt
records_among p l Nil m = []
records_among p l (Cons k w ns ks ts) Done = []
records_among p l (Cons k w ns ks ts) (Mark a below rest) =
    record_here l k (p ++ l.kid ∷ []) ++ records_among (p ++ l.kid ∷ []) (inner l k ks) ks below ++ records_among p (beside l k a) ts rest

-- the record types of a routine's own block
abbrev pub records_of : Annotation → List RecordAt
records_of r = records_among (r.routine.place ++ r.routine.block_kid ∷ []) (start_of r.routine) r.routine.block r.block

-- the record type with a definition
abbrev pub record_defined : Annotated → Definition → Option RecordAt
record_defined p d = find (λ (r : RecordAt). same_definition r.definition d) (flat_map records_of p.routines)

-- the definition of a record type
abbrev pub record_definition : Shape → Option Definition
record_definition (RecordType d p fs) = Some d
record_definition t = None

-- the record type of the access at a place, if it is a variable of one
abbrev pub record_at : Annotated → List ℕ → Option RecordAt
record_at p q = option_and_then (record_defined p) (option_and_then (λ (t : Typed). record_definition t.shape) (expression_type p q))

-- the names of the fields among kids of the node at a place, the first of which is kid i
abbrev pub fields_among : List ℕ → ℕ → Forest → List Declared
fields_among p i Nil = []
fields_among p i (Cons k w ns ks ts) = names_below (p ++ i ∷ []) ks ++ fields_among p (suc i) ts

-- the names of the fields of a record type
abbrev pub fields_of_record : Plain → RecordAt → List Declared
fields_of_record t r = fields_among (r.place ++ 1 ∷ []) 1 (kids_at t (r.place ++ 1 ∷ []))

-- the place of the first of these that has this name
abbrev pub place_named : List ℕ → List Declared → Option (List ℕ)
place_named n ds = option_map (λ (d : Declared). d.place) (find (λ (d : Declared). bytes_eq d.name n) ds)

-- the place at which the record type of the access at a place declares a field with this name
unfoldable pub field_of : Annotated → List ℕ → List ℕ → Option (List ℕ)
field_of p n q = option_and_then (λ (r : RecordAt). place_named n (fields_of_record p.tree r)) (record_at p q)
