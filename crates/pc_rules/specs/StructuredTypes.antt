-- Structured types: arrays, records, sets (ISO 7185, 6.4.3).
use Rattle.std.specs.Prelude.{ℕ, Bool, ◌&&◌, ◌||◌, ◌==◌, if◌then◌else◌, List, [], ◌∷◌, Option, Some, None, codes, option_map, ◌++◌, suc, pos, int_lt}
use Rattle.std.specs.Option.{option_and_then}
use Rattle.pc_types.specs.TypeClasses.{is_ordinal, low, high}
use Rattle.pc_types.specs.Shapes.{Definition, Shape, ArrayType, RecordType, SetType, Fields, LastField, FieldOf, Domain, Typed}
use Rattle.pc_types.specs.Sizes.{is_too_large}
use Rattle.pc_rules.specs.Attributes.{at_kid, Entry, Attributes, Node, kids_below, first_below, second_below, judged, each_kid}
use Rattle.pc_rules.specs.DeclaringNames.{names_in, repeats}
use Rattle.pc_rules.specs.Denoters.{typed, some_typed, defined_here, denoter_node}
use Rattle.pc_rules.specs.Entries.{note_if, no_ordinal}
use Rattle.pc_rules.specs.HandedOn.{any_hole}
use Rattle.pc_rules.specs.Meanings.{Local}

-- row 10, where the type is known
abbrev pub too_large : Option Typed → List Entry
too_large None = []
too_large (Some t) = note_if (is_too_large t.shape) 10 (codes "type too large")

-- an array or a record, with row 10 where its parts are right
abbrev pub sized : List Node → List Entry → Option Typed → Attributes
sized kids entries type = denoter_node kids (entries ++ too_large (judged (any_hole kids) entries type).type) type

-- an index type, with row 8 where it is none
abbrev pub index_type_entries : Node → List Entry
index_type_entries index = index.as_value.entries ++ no_ordinal index.as_value.type

-- the definition of the array with index i of a denoter; those inside are definitions of their own
abbrev pub numbered : Definition → ℕ → Definition
numbered d i = if i == 1 then d else record d { inside = d.inside ++ 0 ∷ i ∷ [] }

-- an array of arrays, one for each index from i on, with these elements
abbrev pub arrays : Definition → ℕ → Bool → List Node → Typed → Option Typed
arrays d i p [] e = Some e
arrays d i p (index ∷ rest) e =
    option_and_then (λ (x : Typed). option_map (λ (inner : Typed). record { shape = ArrayType (numbered d i) p x.shape inner.shape; domains = inner.domains })
    (arrays d (suc i) p rest e)) index.as_value.type

-- an array
abbrev pub array_rule : Local → Node → Node → Attributes
array_rule l indexes element =
    sized (indexes ∷ element ∷ []) (at_kid 1 (each_kid index_type_entries 1 (kids_below indexes)) ++ at_kid 2 element.as_value.entries)
    (option_and_then (arrays (defined_here l) 1 l.packed (kids_below indexes)) element.as_value.type)

-- the names of a list of fields
abbrev pub field_names : Node → List Node
field_names field = kids_below (first_below field)

-- their type
abbrev pub field_denoter : Node → Node
field_denoter field = second_below field

-- row 3 at the fields of a record, whose names so far are given
abbrev pub field_repeats : List (List ℕ) → ℕ → List Node → List Entry
field_repeats before i [] = []
field_repeats before i (field ∷ rest) =
    at_kid i (at_kid 1 (repeats before 1 (field_names field))) ++ field_repeats (names_in (field_names field) ++ before) (suc i) rest

-- fields with these names and one type, before others
abbrev pub fields_named : List (List ℕ) → Shape → Fields → Fields
fields_named [] t fs = fs
fields_named (n ∷ ns) t fs = FieldOf n t (fields_named ns t fs)

-- fields, with the domains of their types
pub record Row : Type 0 where
  pub fields : Fields
  pub domains : List Domain

-- the fields of these lists of fields, where the type of each is known
abbrev pub row_of : List Node → Option Row
row_of [] = Some (record { fields = LastField; domains = [] })
row_of (field ∷ rest) =
    option_and_then (λ (t : Typed). option_map (λ (r : Row). record { fields = fields_named (names_in (field_names field)) t.shape r.fields; domains = t.domains ++ r.domains }) (row_of rest))
    (field_denoter field).as_value.type

-- a record with fields
abbrev pub record_rule : Local → Node → Attributes
record_rule l fields =
    sized (fields ∷ []) (at_kid 1 fields.as_value.entries ++ at_kid 1 (field_repeats [] 1 (kids_below fields)))
    (option_map (λ (r : Row). record { shape = RecordType (defined_here l) l.packed r.fields; domains = r.domains }) (row_of (kids_below fields)))

-- a record without fields
abbrev pub no_fields_rule : Local → Attributes
no_fields_rule l = denoter_node [] [] (some_typed (RecordType (defined_here l) l.packed LastField))

-- row 9, where the base is an ordinal type
abbrev pub base_too_large : Option Typed → List Entry
base_too_large None = []
base_too_large (Some t) = note_if (is_ordinal t.shape && (int_lt (low t.shape) (pos 0) || int_lt (pos 255) (high t.shape))) 9 (codes "set base too large")

-- a set, with rows 8 and 9 at its base
abbrev pub set_rule : Local → Node → Attributes
set_rule l base =
    denoter_node (base ∷ []) (at_kid 1 (base.as_value.entries ++ no_ordinal base.as_value.type ++ base_too_large base.as_value.type))
    (option_map (λ (t : Typed). typed (SetType (defined_here l) l.packed t.shape)) base.as_value.type)

-- a packed type is what stands behind the word, which knows that it is packed
abbrev pub packed_rule : Node → Attributes
packed_rule unpacked = denoter_node (unpacked ∷ []) (at_kid 1 unpacked.as_value.entries) unpacked.as_value.type
