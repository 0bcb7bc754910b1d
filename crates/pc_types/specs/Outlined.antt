-- What the outline of a type tells of its shape.
use Rattle.std.specs.Prelude.{◌≡◌, ℕ, ◌<◌, Bool, true, false, not, if◌then◌else◌, Option, Some, None, get_or, map, option_map}
use Rattle.pc_types.specs.Shapes.{Shape, TextType, EnumeratedType, SubrangeType, ArrayType, RecordType, SetType, PointerType}
use Rattle.pc_types.specs.Sameness.{required_number}
use Rattle.pc_types.specs.TypeClasses.{is_ordinal, is_set, is_constructed, is_pointer, is_packed, host, low, high, base_of}
use Rattle.pc_types.specs.Compatibility.{compatible_ordinals}
use Rattle.pc_types.specs.Table.{Table, Place, place_of, nowhere, numbered, shape_at}
use Rattle.pc_types.specs.declared.operand.Operand.{Operand}
use Rattle.pc_types.specs.declared.operand.Outline.{Outline}
use Rattle.pc_types.specs.declared.operand.Outline.TheVariants as outline
use Rattle.pc_types.specs.Outlines.{outline_number, outline_is_defined, outline_is_ordinal, outline_is_subrange, outline_is_set, outline_is_constructed, outline_is_pointer, outline_is_array, outline_is_record, outline_is_packed, outline_host, outline_low, outline_high, outline_base, outline_packing, outline_index, outline_element, outline_text, outline_domain}

-- whether a denoter defines the type
abbrev pub is_defined : Shape → Bool
is_defined (EnumeratedType d ns) = true
is_defined (SubrangeType d h a b) = true
is_defined (ArrayType d p i e) = true
is_defined (RecordType d p fs) = true
is_defined (SetType d p b) = true
is_defined (PointerType d o n) = true
is_defined _ = false

abbrev pub is_subrange : Shape → Bool
is_subrange (SubrangeType d h a b) = true
is_subrange _ = false

abbrev pub is_array : Shape → Bool
is_array (ArrayType d p i e) = true
is_array _ = false

abbrev pub is_record : Shape → Bool
is_record (RecordType d p fs) = true
is_record _ = false

-- whether a set type is packed
abbrev pub packing_of : Shape → Option Bool
packing_of (SetType d p b) = Some p
packing_of _ = None

-- the index type and the type of the elements of an array
abbrev pub index_of : Shape → Option Shape
index_of (ArrayType d p i e) = Some i
index_of _ = None

abbrev pub element_of : Shape → Option Shape
element_of (ArrayType d p i e) = Some e
element_of _ = None

-- the length of a text
abbrev pub text_size : Shape → ℕ
text_size (TextType n) = n
text_size _ = 0

-- where the domain of a pointer type is declared
abbrev pub domain_place : Shape → Option Place
domain_place (PointerType d o n) = Some (record { owner = o; name = n })
domain_place _ = None

-- whether two set types are both packed or neither; true where one is no set type
abbrev pub same_packing : Option Bool → Option Bool → Bool
same_packing (Some p) (Some q) = if p then q else not q
same_packing (Some p) None = true
same_packing None q = true

-- whether two sets have bases that are compatible; true where one is `[]`
abbrev pub compatible_bases : Option Shape → Option Shape → Bool
compatible_bases (Some a) (Some b) = compatible_ordinals a b
compatible_bases (Some a) None = true
compatible_bases None b = true

-- what an outline tells of the type of an expression, whose shape is the last
pub record IsOutline (table : Table) (x : Operand) (o : Outline) (t : Shape) : Type 0 where
  pub number : outline_number o ≡ required_number t
  pub defined : outline_is_defined o ≡ is_defined t
  pub ordinal : outline_is_ordinal o ≡ is_ordinal t
  pub subrange : outline_is_subrange o ≡ is_subrange t
  pub set : outline_is_set o ≡ is_set t
  pub constructed : outline_is_constructed o ≡ is_constructed t
  pub pointer : outline_is_pointer o ≡ is_pointer t
  pub array : outline_is_array o ≡ is_array t
  pub fields : outline_is_record o ≡ is_record t
  pub packed : outline_is_packed o ≡ is_packed t
  pub host : shape_at table (outline_host x o) ≡ host t
  pub low : outline_low o ≡ low t
  pub high : outline_high o ≡ high t
  pub base : option_map (numbered table.shapes) (outline_base o) ≡ base_of t
  pub packing : outline_packing o ≡ packing_of t
  pub index : option_map (numbered table.shapes) (outline_index o) ≡ index_of t
  pub element : option_map (numbered table.shapes) (outline_element o) ≡ element_of t
  pub text : outline_text o ≡ text_size t
  pub domain : option_map (λ d. get_or (map place_of table.domains) d.0 nowhere) (outline_domain o) ≡ domain_place t

-- the parts of an outline are among so many types
abbrev pub OutlineThere : ℕ → Outline → Type 0
OutlineThere types (outline.Subrange h a b) = h.0 < types
OutlineThere types (outline.Array p i e) = (i.0 < types) × (e.0 < types)
OutlineThere types (outline.Set p b) = b.0 < types
OutlineThere types (outline.Members b) = b.0 < types
OutlineThere types _ = Unit {0}
