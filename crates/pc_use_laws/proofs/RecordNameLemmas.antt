-- Whether a record has a field of a name, by its definition.
use Rattle.std.specs.Prelude.{ℕ, ◌≡◌, Bool, true, false, ◌||◌, if◌then◌else◌, List, [], ◌∷◌, Option, Some, None, map}
use Rattle.std.specs.Option.{option_and_then, option_map, option_map_or, option_or, is_some}
use Rattle.std.specs.List.{find, flat_map}
use Rattle.std.specs.Str.{bytes_eq}
use Rattle.std.proofs.Common.{refl, ap, ◌∙◌}
use Rattle.pc_syntax.specs.declared.kind.Kind.{Kind}
use Rattle.pc_syntax.specs.Plain.{Plain}
use Rattle.pc_syntax.specs.Words.{is_among}
use Rattle.pc_types.specs.Shapes.{Definition}
use Rattle.pc_types.specs.Sameness.{same_definition}
use Rattle.pc_scope.specs.Declarations.{Declared}
use Rattle.pc_rules.specs.Attributes.{Attributes}
use Rattle.pc_decl.specs.Found.{attributes_at}
use Rattle.pc_decl.specs.Meant.{open_field, place_of}
use Rattle.pc_decl.specs.Uses.{opened_at}
use Rattle.pc_scope.specs.Lookup.{lookup}
use Rattle.pc_decl.specs.Nodes.{above, kid_number}
use Rattle.pc_decl.specs.Records.{RecordAt, records_of, record_defined, fields_of_record, place_named, field_of}
use Rattle.pc_decl.specs.Roles.{judged_as, role_below, expression_type}
use Rattle.pc_use_laws.specs.RecordNames.{RecordNames, names_in, names_of_record, all_records, has_field, has_field_if, definition_at, HasFieldLaw, OpensNameLaw, AccessTypeLaw, MeantLaw, AloneLaw, RecordsLaw}

-- ---- names

named-place : (n : List ℕ) (ds : List Declared) → is_some (place_named n ds) ≡ is_among (names_in ds) n
named-place n [] = refl
named-place n (d ∷ ds) = which (named-place n ds) (bytes_eq d.name n) where
  which : is_some (place_named n ds) ≡ is_among (names_in ds) n → (z : Bool) →
      is_some (option_map (λ (x : Declared). x.place) (if z then Some d else find (λ (x : Declared). bytes_eq x.name n) ds)) ≡ (z || is_among (names_in ds) n)
  which rest true = refl
  which rest false = rest

-- what is found among texts made of some elements
found-record : (t : Plain) (n : List ℕ) (d : Definition) (rs : List RecordAt) →
    is_some (option_and_then (λ (r : RecordAt). place_named n (fields_of_record t r)) (find (λ (r : RecordAt). same_definition r.definition d) rs))
    ≡ has_field (map (names_of_record t) rs) n d
found-record t n d [] = refl
found-record t n d (r ∷ rs) = which (found-record t n d rs) (same_definition r.definition d) where
  which : is_some (option_and_then (λ (x : RecordAt). place_named n (fields_of_record t x)) (find (λ (x : RecordAt). same_definition x.definition d) rs)) ≡ has_field (map (names_of_record t) rs) n d →
      (z : Bool) → is_some (option_and_then (λ (x : RecordAt). place_named n (fields_of_record t x)) (if z then Some r else find (λ (x : RecordAt). same_definition x.definition d) rs))
      ≡ option_map_or (λ (x : RecordNames). is_among x.names n) (if z then Some (names_of_record t r) else find (λ (x : RecordNames). same_definition x.definition d) (map (names_of_record t) rs)) false
  which rest true = named-place n (fields_of_record t r)
  which rest false = rest

pub has-field-law : HasFieldLaw
unfolding field_of
has-field-law p n q = by (definition_at p q) where
  by : (d : Option Definition) →
      is_some (option_and_then (λ (r : RecordAt). place_named n (fields_of_record p.tree r)) (option_and_then (record_defined p) d)) ≡ has_field_if (all_records p) n d
  by None = refl
  by (Some d) = found-record p.tree n d (flat_map records_of p.routines)

some-or : {X : Type 0} (a b : Option X) → is_some (option_or a b) ≡ (is_some a || is_some b)
some-or None b = refl
some-or (Some x) b = refl

pub opens-name-law : OpensNameLaw
opens-name-law p n [] = refl
opens-name-law p n (q ∷ qs) = some-or (field_of p n q) (open_field p n qs) ∙ (λ i. has-field-law p n q i || opens-name-law p n qs i)

pub access-type-law : AccessTypeLaw
unfolding expression_type
access-type-law p q e = ap (λ (k : Kind). option_and_then (λ (a : Attributes). (judged_as (role_below p (above q) (kid_number q) k) a).type) (attributes_at p q)) e

pub meant-law : MeantLaw
meant-law p q n = ap (λ (b : Bool). if b then None else place_of (lookup p.tree n q)) (opens-name-law p n (opened_at p.tree q))

pub alone-law : AloneLaw
alone-law p q n e = ap (λ (qs : List (List ℕ)). if is_some (open_field p n qs) then None else place_of (lookup p.tree n q)) e

pub records-law : RecordsLaw
records-law = record { field = has-field-law; open_fields = opens-name-law; access = access-type-law; meant = meant-law; alone = alone-law }
