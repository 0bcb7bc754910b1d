-- What the rules judge of types that may be unknown, as shapes alone.
use Rattle.std.specs.Prelude.{ℕ, Bool, true, false, not, ◌&&◌, ◌||◌, if◌then◌else◌, List, Option, Some, None, codes, pos, int_lt}
use Rattle.std.specs.Str.{bytes_eq}
use Rattle.std.specs.Option.{option_and_then}
use Rattle.pc_types.specs.Domains.{field_in}
use Rattle.pc_types.specs.Sameness.{same}
use Rattle.pc_types.specs.TypeClasses.{is_ordinal, is_pointer, is_packed, low, high, fields_of}
use Rattle.pc_types.specs.Compatibility.{compatible, assignable}
use Rattle.pc_types.specs.Shapes.{Shape, IntegerType, BooleanType, CharType, NoMembers, MembersType}
use Rattle.pc_rules.specs.Components.{index_type_of, element_type}
use Rattle.pc_rules.specs.Operators.{where_true, is_declared_set}

-- a type that is known and that a test does not hold of
abbrev pub is_unfit : (Shape → Bool) → Option Shape → Bool
is_unfit fits None = false
is_unfit fits (Some t) = not (fits t)

-- two types that are known and do not go together
abbrev pub is_mismatch : (Shape → Shape → Bool) → Option Shape → Option Shape → Bool
is_mismatch fits (Some a) (Some b) = not (fits a b)
is_mismatch fits _ _ = false

-- the second may not be assigned to the first
abbrev pub is_unassignable : Option Shape → Option Shape → Bool
is_unassignable to from = is_mismatch assignable to from

-- the variable's type isn't the parameter's
abbrev pub differs : Option Shape → Option Shape → Bool
differs t u = is_mismatch same t u

-- no ordinal type
abbrev pub is_no_ordinal : Option Shape → Bool
is_no_ordinal t = is_unfit is_ordinal t

-- no type for the result of a function
abbrev pub is_not_simple : Option Shape → Bool
is_not_simple t = is_unfit (λ x. is_ordinal x || is_pointer x) t

-- the control variable has a type that isn't compatible with a bound's
abbrev pub is_incompatible : Option Shape → Shape → Bool
is_incompatible t b = is_unfit (λ x. compatible x b) t

-- an ordinal type with a value below 0 or above 255
abbrev pub is_base_too_large : Shape → Bool
is_base_too_large t = is_ordinal t && (int_lt (low t) (pos 0) || int_lt (pos 255) (high t))

-- whether a union, a difference or an intersection has the type of its left operand
abbrev pub keeps_left : Shape → Shape → Bool
keeps_left NoMembers b = false
keeps_left (MembersType a) b = not (is_declared_set b)
keeps_left _ b = true

-- the type of a required function of an integer
abbrev pub of_integer : List ℕ → Shape
of_integer n = if bytes_eq n (codes "chr") then CharType else if bytes_eq n (codes "odd") then BooleanType else IntegerType

-- the type of a member, where it is ordinal
abbrev pub member_type : Option Shape → Option Shape
member_type t = option_and_then (λ (x : Shape). where_true (is_ordinal x) x) t

-- the index type and the type of the elements of an array
abbrev pub index_of : Option Shape → Option Shape
index_of t = option_and_then index_type_of t

abbrev pub component_of : Option Shape → Option Shape
component_of t = option_and_then element_type t

-- the type of a field of a record
abbrev pub field_type : Option Shape → List ℕ → Option Shape
field_type t n = option_and_then (λ (x : Shape). field_in (fields_of x) n) t

-- whether a type is known and packed
abbrev pub packed_type : Option Shape → Bool
packed_type None = false
packed_type (Some t) = is_packed t
