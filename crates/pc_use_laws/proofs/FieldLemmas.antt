-- What a name means as that of a field is the place of a field's name.
use Rattle.std.specs.Prelude.{ℕ, Bool, true, false, if◌then◌else◌, List, [], ◌∷◌, Option, Some, None}
use Rattle.std.specs.Option.{option_and_then, option_map, option_or}
use Rattle.std.specs.List.{find, flat_map}
use Rattle.std.specs.Str.{bytes_eq}
use Rattle.std.proofs.Common.{sym, ◌∙◌, true≢false}
use Rattle.pc_syntax.specs.Plain.{Plain}
use Rattle.pc_syntax.specs.WellFormed.{IsProper}
use Rattle.pc_types.specs.Shapes.{Definition}
use Rattle.pc_types.specs.Sameness.{same_definition}
use Rattle.pc_scope.specs.Declarations.{Declared}
use Rattle.pc_decl.specs.Annotated.{Annotation, annotated}
use Rattle.pc_decl.specs.Declared.{names_of}
use Rattle.pc_decl.specs.Meant.{open_field}
use Rattle.pc_decl.specs.Records.{RecordAt, records_of, record_defined, record_at, fields_of_record, place_named, field_of}
use Rattle.pc_needs.proofs.Lists.{Each, each-append, each-map}
use Rattle.pc_decl_laws.proofs.NameLemmas.{Stands}
use Rattle.pc_decl_laws.proofs.TypeLemmas.{IsKnown, annotations-known, each-among}
use Rattle.pc_use_laws.specs.FieldPlaces.{FindsField, OpenFieldLaw, FieldOfLaw, DeclaredPlaceLaw, FieldsLaw}
use Rattle.pc_use_laws.proofs.RecordLemmas.{IsField, HasFields, records-of-have}
use Rattle.pc_use_laws.proofs.SeatLemmas.{IsSeated, annotations-seated}

-- ---- what is found

-- what holds of what is there
abbrev pub Holds : {X : Type 0} → (X → Type 0) → Option X → Type 0
Holds P None = Unit {0}
Holds P (Some x) = P x

found-holds : {X : Type 0} (P : X → Type 0) (test : X → Bool) (xs : List X) → Each P xs → Holds P (find test xs)
found-holds P test [] h = tt
found-holds P test (x ∷ xs) h = which (found-holds P test xs h.1) (test x) where
  which : Holds P (find test xs) → (z : Bool) → Holds P (if z then Some x else find test xs)
  which rest true = h.0
  which rest false = rest

each-flat : {X Y : Type 0} (P : Y → Type 0) (f : X → List Y) (xs : List X) → Each (λ (x : X). Each P (f x)) xs → Each P (flat_map f xs)
each-flat P f [] h = tt
each-flat P f (x ∷ xs) h = each-append P (f x) (flat_map f xs) h.0 (each-flat P f xs h.1)

-- ---- the law

record-holds : (t : Plain) (d : Option Definition) → IsProper t → Holds (HasFields t) (option_and_then (record_defined (annotated t)) d)
record-holds t None proper = tt
record-holds t (Some d) proper =
    found-holds (HasFields t) (λ (r : RecordAt). same_definition r.definition d) (flat_map records_of (annotated t).routines)
    (each-flat (HasFields t) records_of (annotated t).routines
    (each-map (λ (a : Annotation). IsSeated t a.routine) (λ (a : Annotation). Each (HasFields t) (records_of a)) (annotated t).routines (records-of-have t) (annotations-seated t proper)))

named-field : (t : Plain) (n : List ℕ) (ds : List Declared) → Each (IsField t) ds → FindsField t (place_named n ds)
named-field t n ds h = by (find (λ (d : Declared). bytes_eq d.name n) ds) (found-holds (IsField t) (λ (d : Declared). bytes_eq d.name n) ds h) where
  by : (o : Option Declared) → Holds (IsField t) o → FindsField t (option_map (λ (d : Declared). d.place) o)
  by None g = tt
  by (Some d) g = g

in-record : (t : Plain) (n : List ℕ) (o : Option RecordAt) → Holds (HasFields t) o → FindsField t (option_and_then (λ (r : RecordAt). place_named n (fields_of_record t r)) o)
in-record t n None h = tt
in-record t n (Some r) h = named-field t n (fields_of_record t r) h

pub field-of-law : FieldOfLaw
unfolding field_of annotated
field-of-law t n q proper = in-record t n (record_at (annotated t) q) (record-holds t _ proper)

either-field : (t : Plain) (a b : Option (List ℕ)) → FindsField t a → FindsField t b → FindsField t (option_or a b)
either-field t None b h g = g
either-field t (Some q) b h g = h

pub open-field-law : OpenFieldLaw
open-field-law t n [] proper = tt
open-field-law t n (q ∷ qs) proper = either-field t (field_of (annotated t) n q) (open_field (annotated t) n qs) (field-of-law t n q proper) (open-field-law t n qs proper)

pub declared-place-law : DeclaredPlaceLaw
declared-place-law t r d proper a i e =
    let k = each-among (IsKnown t) (annotated t).routines r a (annotations-known t proper) in
    let s = each-among (Stands t r.routine.place) (names_of t r.routine) d i k.names in
    true≢false (sym e ∙ s.free)

pub fields-law : FieldsLaw
fields-law = record { field = field-of-law; open_fields = open-field-law; declared = declared-place-law }
