-- Classes of types: ordinal types, sets, pointers, strings (ISO 7185, 6.4.2 to 6.4.4).
use Rattle.std.specs.Prelude.{ℕ, Bool, true, false, not, ◌&&◌, ◌==◌, if◌then◌else◌, Option, Some, None, length, pos, ℤ, ◌-ℤ◌, nat_abs, int_le}
use Rattle.pc_types.specs.Sameness.{required_number}
use Rattle.pc_types.specs.Shapes.{Shape, IntegerType, BooleanType, CharType, NilType, NoMembers, MembersType, TextType, EnumeratedType, SubrangeType, ArrayType, RecordType, SetType, PointerType, Fields, LastField}

abbrev pub is_ordinal : Shape → Bool
is_ordinal IntegerType = true
is_ordinal BooleanType = true
is_ordinal CharType = true
is_ordinal (EnumeratedType d ns) = true
is_ordinal (SubrangeType d h a b) = true
is_ordinal _ = false

-- the host of a subrange, and else the type itself
abbrev pub host : Shape → Shape
host (SubrangeType d h a b) = h
host t = t

abbrev pub is_set : Shape → Bool
is_set NoMembers = true
is_set (MembersType b) = true
is_set (SetType d p b) = true
is_set _ = false

-- the type of a set constructor, which no denoter makes
abbrev pub is_constructed : Shape → Bool
is_constructed NoMembers = true
is_constructed (MembersType b) = true
is_constructed _ = false

abbrev pub is_pointer : Shape → Bool
is_pointer NilType = true
is_pointer (PointerType d o n) = true
is_pointer _ = false

abbrev pub is_integer : Shape → Bool
is_integer t = required_number (host t) == 1

abbrev pub is_boolean : Shape → Bool
is_boolean t = required_number (host t) == 2

abbrev pub is_char : Shape → Bool
is_char t = required_number (host t) == 3

-- maxint
unfoldable pub largest_number : ℕ
largest_number = 9223372036854775807

abbrev pub maxint : ℤ
maxint = pos largest_number

-- the least and the largest ordinal
abbrev pub low : Shape → ℤ
low IntegerType = pos 0 -ℤ maxint
low (SubrangeType d h a b) = a
low _ = pos 0

abbrev pub high : Shape → ℤ
high IntegerType = maxint
high BooleanType = pos 1
high CharType = pos 127
high (EnumeratedType d ns) = pos (length ns) -ℤ pos 1
high (SubrangeType d h a b) = b
high _ = pos 0

-- the length of a string whose indices go from the one number to the other: 0 unless they go from 1 to 2 or more
abbrev pub text_bounds : ℤ → ℤ → ℕ
text_bounds a b = if int_le a (pos 1) && int_le (pos 1) a && int_le (pos 2) b then nat_abs b else 0

-- the length of a string whose index type and component are these, 0 where it is none
abbrev pub text_length : Shape → Shape → ℕ
text_length (SubrangeType d IntegerType a b) CharType = text_bounds a b
text_length _ _ = 0

-- the length of a string, 0 for every other type
abbrev pub string_length : Shape → ℕ
string_length (TextType n) = n
string_length (ArrayType d true i e) = text_length i e
string_length _ = 0

abbrev pub is_string : Shape → Bool
is_string t = not (string_length t == 0)

abbrev pub fields_of : Shape → Fields
fields_of (RecordType d p fs) = fs
fields_of _ = LastField

abbrev pub is_packed : Shape → Bool
is_packed (ArrayType d p i e) = p
is_packed (RecordType d p fs) = p
is_packed _ = false

abbrev pub base_of : Shape → Option Shape
base_of (SetType d p b) = Some b
base_of (MembersType b) = Some b
base_of _ = None
