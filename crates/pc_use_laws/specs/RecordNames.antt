-- Whether a name is that of a field that a `with` opens, from the definitions of the record types of its accesses (ISO 7185, 6.8.3.10).
use Rattle.std.specs.Prelude.{◌≡◌, ℕ, Bool, false, ◌||◌, if◌then◌else◌, List, [], ◌∷◌, Option, None, map}
use Rattle.std.specs.Option.{option_and_then, option_map_or, is_some}
use Rattle.std.specs.List.{find, flat_map}
use Rattle.pc_syntax.specs.Plain.{Plain}
use Rattle.pc_syntax.specs.Words.{is_among}
use Rattle.pc_types.specs.Shapes.{Definition, Typed}
use Rattle.pc_types.specs.Sameness.{same_definition}
use Rattle.pc_scope.specs.Declarations.{Declared}
use Rattle.pc_scope.specs.Lookup.{lookup}
use Rattle.pc_rules.specs.Attributes.{Attributes}
use Rattle.pc_decl.specs.Annotated.{Annotated}
use Rattle.pc_decl.specs.Found.{attributes_at}
use Rattle.pc_decl.specs.Meant.{open_field, place_of}
use Rattle.pc_decl.specs.Nodes.{above, kind_at}
use Rattle.pc_decl.specs.Records.{RecordAt, records_of, record_definition, fields_of_record, field_of}
use Rattle.pc_decl.specs.Roles.{expression_type}
use Rattle.pc_decl.specs.Uses.{opened_at}
use Rattle.pc_use_laws.specs.Pairs.{declaration_meant}
use Rattle.pc_syntax.specs.declared.kind.Kind.TheVariants as kind

-- a record type: its definition, and the names of its fields
pub record RecordNames : Type 0 where
  pub definition : Definition
  pub names : List (List ℕ)

-- the names of these
abbrev pub names_in : List Declared → List (List ℕ)
names_in ds = map (λ (d : Declared). d.name) ds

-- the record type at a place with the names of its fields
abbrev pub names_of_record : Plain → RecordAt → RecordNames
names_of_record t r = record { definition = r.definition; names = names_in (fields_of_record t r) }

-- the record types of a program, in the order of its routines
abbrev pub all_records : Annotated → List RecordNames
all_records p = map (names_of_record p.tree) (flat_map records_of p.routines)

-- whether the record type with a definition has a field of this name
abbrev pub has_field : List RecordNames → List ℕ → Definition → Bool
has_field rs n d = option_map_or (λ (r : RecordNames). is_among r.names n) (find (λ (r : RecordNames). same_definition r.definition d) rs) false

-- the same of what may be none
abbrev pub has_field_if : List RecordNames → List ℕ → Option Definition → Bool
has_field_if rs n d = option_map_or (has_field rs n) d false

-- whether one of them has such a field
abbrev pub any_has_field : List RecordNames → List ℕ → List (Option Definition) → Bool
any_has_field rs n [] = false
any_has_field rs n (d ∷ ds) = has_field_if rs n d || any_has_field rs n ds

-- the definition of a record type
abbrev pub definition_of : Option Typed → Option Definition
definition_of t = option_and_then (λ (u : Typed). record_definition u.shape) t

-- the definition of the record type of the expression at a place
abbrev pub definition_at : Annotated → List ℕ → Option Definition
definition_at p q = definition_of (expression_type p q)

-- the record before a name has a field of that name, or not
abbrev pub HasFieldLaw : Type 0
HasFieldLaw = (p : Annotated) (n q : List ℕ) → is_some (field_of p n q) ≡ has_field_if (all_records p) n (definition_at p q)

-- so it is with the records of some accesses
abbrev pub OpensNameLaw : Type 0
OpensNameLaw = (p : Annotated) (n : List ℕ) (qs : List (List ℕ)) → is_some (open_field p n qs) ≡ any_has_field (all_records p) n (map (definition_at p) qs)

-- the type of an access is that of a variable
abbrev pub AccessTypeLaw : Type 0
AccessTypeLaw = (p : Annotated) (q : List ℕ) → kind_at p.tree (above q) ≡ kind.Accesses →
    expression_type p q ≡ option_and_then (λ (a : Attributes). a.as_place.type) (attributes_at p q)

-- so the declaration that a name means by look-up is known from these
abbrev pub MeantLaw : Type 0
MeantLaw = (p : Annotated) (q n : List ℕ) →
    declaration_meant p q n ≡ (if any_has_field (all_records p) n (map (definition_at p) (opened_at p.tree q)) then None else place_of (lookup p.tree n q))

-- where nothing is open it is what the look-up says
abbrev pub AloneLaw : Type 0
AloneLaw = (p : Annotated) (q n : List ℕ) → opened_at p.tree q ≡ [] → declaration_meant p q n ≡ place_of (lookup p.tree n q)

-- what is open to a name is known by definitions and names
pub record RecordsLaw : Type 0 where
  pub field : HasFieldLaw
  pub open_fields : OpensNameLaw
  pub access : AccessTypeLaw
  pub meant : MeantLaw
  pub alone : AloneLaw
