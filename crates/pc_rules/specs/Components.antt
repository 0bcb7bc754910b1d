-- Components of variables: indexed variables, fields, and what a pointer leads to (ISO 7185, 6.5.3, 6.5.4).
use Rattle.std.specs.Prelude.{ℕ, Bool, true, false, not, ◌&&◌, ◌||◌, if◌then◌else◌, List, [], ◌∷◌, Option, Some, None, codes, option_map, ◌++◌, suc}
use Rattle.std.specs.Option.{option_and_then, is_some, is_none}
use Rattle.pc_syntax.specs.Sorts.{is_hole}
use Rattle.pc_syntax.specs.Words.{lowered}
use Rattle.pc_types.specs.Domains.{field_in, domain_in}
use Rattle.pc_types.specs.Shapes.{Shape, ArrayType, RecordType, PointerType, Domain, Typed}
use Rattle.pc_types.specs.TypeClasses.{fields_of, is_packed}
use Rattle.pc_rules.specs.Attributes.{at_kid, Entry, Attributes, Node, plain, kids_below, judged}
use Rattle.pc_rules.specs.Entries.{note, note_if, unassignable, unless}
use Rattle.pc_rules.specs.HandedOn.{any_hole, all_touches}
use Rattle.pc_rules.specs.UsedNames.{not_a}
use Rattle.pc_rules.specs.Variables.{opened_by}

-- an access that isn't a name alone, and whether it is a component of something packed
abbrev pub component_node : List Node → List Entry → Option Typed → Bool → Attributes
component_node kids entries type packed =
    let j = judged (any_hole kids) entries type in
    record plain {
      hole = any_hole kids;
      touches = all_touches kids;
      packed_part = packed;
      opens = opened_by j.type;
      as_value = j;
      as_place = j;
      as_target = j;
    }

-- ---- a[i, j]: each index takes one array off

-- whether a type is an array
abbrev pub is_array : Shape → Bool
is_array (ArrayType d p i e) = true
is_array _ = false

-- the index type of an array
abbrev pub index_type_of : Shape → Option Shape
index_type_of (ArrayType d p i e) = Some i
index_type_of _ = None

-- the type of its elements
abbrev pub element_type : Shape → Option Shape
element_type (ArrayType d p i e) = Some e
element_type _ = None

-- the index type of a type that may be unknown
abbrev pub index_of : Option Typed → Option Shape
index_of t = option_and_then (λ (x : Typed). index_type_of x.shape) t

-- the type of the elements of a type that may be unknown
abbrev pub component_of : Option Typed → Option Typed
component_of None = None
component_of (Some t) = option_map (λ (s : Shape). record { shape = s; domains = t.domains }) (element_type t.shape)

-- the entries of the indexes from index i on, with row 11 at each that doesn't fit the index type
abbrev pub indexed : Option Typed → ℕ → List Node → List Entry
indexed t i [] = []
indexed t i (index ∷ rest) =
    at_kid i (index.as_value.entries ++ unassignable (index_of t) index.as_value.type) ++ indexed (component_of t) (suc i) rest

-- row 15: whether an index stands at a type that is no array
abbrev pub indexes_no_array : Option Typed → List Node → Bool
indexes_no_array t [] = false
indexes_no_array None (index ∷ rest) = false
indexes_no_array (Some t) (index ∷ rest) = not (is_array t.shape) || indexes_no_array (component_of (Some t)) rest

-- whether each of them has a type
abbrev pub all_typed : List Node → Bool
all_typed [] = true
all_typed (k ∷ ks) = is_some k.as_value.type && all_typed ks

-- the type behind these indexes
abbrev pub indexed_type : Option Typed → List Node → Option Typed
indexed_type t [] = t
indexed_type t (index ∷ rest) = indexed_type (component_of t) rest

-- whether one of them selects from a packed array
abbrev pub indexes_packed : Option Typed → List Node → Bool
indexes_packed t [] = false
indexes_packed None (index ∷ rest) = false
indexes_packed (Some t) (index ∷ rest) = (is_array t.shape && is_packed t.shape) || indexes_packed (component_of (Some t)) rest

-- an indexed variable
abbrev pub index_rule : Node → Node → Attributes
index_rule array indexes =
    let base = array.as_place in
    component_node (array ∷ indexes ∷ [])
    (at_kid 1 base.entries ++ at_kid 2 (indexed base.type 1 (kids_below indexes)) ++ at_kid 1 (note_if (indexes_no_array base.type (kids_below indexes)) 15 (codes "not an array")))
    (if all_typed (kids_below indexes) then indexed_type base.type (kids_below indexes) else None)
    (is_some base.type && (indexes_packed base.type (kids_below indexes) || array.packed_part))

-- ---- r.f

-- whether a type is a record
abbrev pub is_record : Shape → Bool
is_record (RecordType d p fs) = true
is_record _ = false

-- row 15 at an access that is selected from, or named by a with
abbrev pub no_record : Option Typed → List Entry
no_record t = unless is_record t (note 15 (codes "not a record"))

-- the type of a field
abbrev pub field_type : Option Typed → List ℕ → Option Typed
field_type None n = None
field_type (Some t) n = option_map (λ (s : Shape). record { shape = s; domains = t.domains }) (field_in (fields_of t.shape) n)

-- row 4: the record has no such field
abbrev pub no_field : Option Typed → Node → List Entry
no_field None name = []
no_field (Some t) name =
    if is_record t.shape && not (is_hole name.kind) && is_none (field_in (fields_of t.shape) (lowered name.word)) then not_a (codes "field") name.word else []

-- whether a type is known and packed
abbrev pub packed_type : Option Typed → Bool
packed_type None = false
packed_type (Some t) = is_packed t.shape

-- a field of a record
abbrev pub select_rule : Node → Node → Attributes
select_rule whole field =
    let base = whole.as_place in
    component_node (whole ∷ field ∷ []) (at_kid 1 (base.entries ++ no_record base.type) ++ at_kid 2 (no_field base.type field))
    (field_type base.type (lowered field.word)) (is_some base.type && (packed_type base.type || whole.packed_part))

-- ---- p^

-- whether a type is a pointer type that a denoter made
abbrev pub is_made_pointer : Shape → Bool
is_made_pointer (PointerType d o n) = true
is_made_pointer _ = false

-- the type that pointers of this type lead to
abbrev pub domain_of : List Domain → Shape → Option Typed
domain_of ds (PointerType d o n) = option_map (λ (s : Shape). record { shape = s; domains = ds }) (domain_in ds o n)
domain_of ds _ = None

-- row 15 at what should be a pointer
abbrev pub no_pointer : (Shape → Bool) → Option Typed → List Entry
no_pointer is t = unless is t (note 15 (codes "not a pointer"))

-- what a pointer leads to
abbrev pub dereference_rule : Node → Attributes
dereference_rule pointer =
    let base = pointer.as_place in
    component_node (pointer ∷ []) (at_kid 1 (base.entries ++ no_pointer is_made_pointer base.type))
    (option_and_then (λ (t : Typed). domain_of t.domains t.shape) base.type) false
