-- Tests of shapes by their parts.
use Rattle.std.proofs.Common.{◌≡◌, ℕ, Bool, true, false, ◌&&◌, ◌==◌, if◌then◌else◌, Option, Some, None, refl, List}
use Rattle.pc_types.specs.Shapes.{Definition, Shape, IntegerType, BooleanType, CharType, NilType, NoMembers, MembersType, TextType, EnumeratedType, SubrangeType, ArrayType, RecordType, SetType, PointerType}
use Rattle.pc_types.specs.Sameness.{required_number, definition_of}
use Rattle.pc_types.specs.TypeClasses.{is_set, is_packed, host, low, high, base_of, text_bounds, text_length, string_length}
use Rattle.pc_types.specs.Compatibility.{compatible_sets}
use Rattle.pc_types.specs.Outlined.{is_defined, is_subrange, packing_of, index_of, element_of, text_size, same_packing, compatible_bases}
use Rattle.pc_types.specs.Table.{Place, formed}
use Rattle.pc_types.specs.declared.form.Form.{Form}
use Rattle.pc_types.specs.declared.form.Form.TheVariants as form

-- the sets of which bases are compatible
pub compatible_sets-parts : (a b : Shape) → compatible_sets a b ≡ (is_set a && is_set b && same_packing (packing_of a) (packing_of b) && compatible_bases (base_of a) (base_of b))
compatible_sets-parts IntegerType t = refl
compatible_sets-parts BooleanType t = refl
compatible_sets-parts CharType t = refl
compatible_sets-parts NilType t = refl
compatible_sets-parts NoMembers IntegerType = refl
compatible_sets-parts NoMembers BooleanType = refl
compatible_sets-parts NoMembers CharType = refl
compatible_sets-parts NoMembers NilType = refl
compatible_sets-parts NoMembers NoMembers = refl
compatible_sets-parts NoMembers (MembersType b') = refl
compatible_sets-parts NoMembers (TextType n') = refl
compatible_sets-parts NoMembers (EnumeratedType d' ns') = refl
compatible_sets-parts NoMembers (SubrangeType d' h' a' b') = refl
compatible_sets-parts NoMembers (ArrayType d' p' i' e') = refl
compatible_sets-parts NoMembers (RecordType d' p' fs') = refl
compatible_sets-parts NoMembers (SetType d' p' b') = refl
compatible_sets-parts NoMembers (PointerType d' o' n') = refl
compatible_sets-parts (MembersType b) IntegerType = refl
compatible_sets-parts (MembersType b) BooleanType = refl
compatible_sets-parts (MembersType b) CharType = refl
compatible_sets-parts (MembersType b) NilType = refl
compatible_sets-parts (MembersType b) NoMembers = refl
compatible_sets-parts (MembersType b) (MembersType b') = refl
compatible_sets-parts (MembersType b) (TextType n') = refl
compatible_sets-parts (MembersType b) (EnumeratedType d' ns') = refl
compatible_sets-parts (MembersType b) (SubrangeType d' h' a' b') = refl
compatible_sets-parts (MembersType b) (ArrayType d' p' i' e') = refl
compatible_sets-parts (MembersType b) (RecordType d' p' fs') = refl
compatible_sets-parts (MembersType b) (SetType d' p' b') = refl
compatible_sets-parts (MembersType b) (PointerType d' o' n') = refl
compatible_sets-parts (TextType n) t = refl
compatible_sets-parts (EnumeratedType d ns) t = refl
compatible_sets-parts (SubrangeType d h a b) t = refl
compatible_sets-parts (ArrayType d p i e) t = refl
compatible_sets-parts (RecordType d p fs) t = refl
compatible_sets-parts (SetType d p b) IntegerType = refl
compatible_sets-parts (SetType d p b) BooleanType = refl
compatible_sets-parts (SetType d p b) CharType = refl
compatible_sets-parts (SetType d p b) NilType = refl
compatible_sets-parts (SetType d p b) NoMembers = refl
compatible_sets-parts (SetType d p b) (MembersType b') = refl
compatible_sets-parts (SetType d p b) (TextType n') = refl
compatible_sets-parts (SetType d p b) (EnumeratedType d' ns') = refl
compatible_sets-parts (SetType d p b) (SubrangeType d' h' a' b') = refl
compatible_sets-parts (SetType d p b) (ArrayType d' p' i' e') = refl
compatible_sets-parts (SetType d p b) (RecordType d' p' fs') = refl
compatible_sets-parts (SetType d p b) (SetType d' p' b') = refl
compatible_sets-parts (SetType d p b) (PointerType d' o' n') = refl
compatible_sets-parts (PointerType d o n) t = refl

-- the length of a string from its index type and its component
pub text_length-parts : (i e : Shape) → text_length i e ≡ (if is_subrange i && required_number (host i) == 1 && required_number e == 3 then text_bounds (low i) (high i) else 0)
text_length-parts IntegerType t = refl
text_length-parts BooleanType t = refl
text_length-parts CharType t = refl
text_length-parts NilType t = refl
text_length-parts NoMembers t = refl
text_length-parts (MembersType b) t = refl
text_length-parts (TextType n) t = refl
text_length-parts (EnumeratedType d ns) t = refl
text_length-parts (SubrangeType d IntegerType a b) IntegerType = refl
text_length-parts (SubrangeType d IntegerType a b) BooleanType = refl
text_length-parts (SubrangeType d IntegerType a b) CharType = refl
text_length-parts (SubrangeType d IntegerType a b) NilType = refl
text_length-parts (SubrangeType d IntegerType a b) NoMembers = refl
text_length-parts (SubrangeType d IntegerType a b) (MembersType b') = refl
text_length-parts (SubrangeType d IntegerType a b) (TextType n') = refl
text_length-parts (SubrangeType d IntegerType a b) (EnumeratedType d' ns') = refl
text_length-parts (SubrangeType d IntegerType a b) (SubrangeType d' h' a' b') = refl
text_length-parts (SubrangeType d IntegerType a b) (ArrayType d' p' i' e') = refl
text_length-parts (SubrangeType d IntegerType a b) (RecordType d' p' fs') = refl
text_length-parts (SubrangeType d IntegerType a b) (SetType d' p' b') = refl
text_length-parts (SubrangeType d IntegerType a b) (PointerType d' o' n') = refl
text_length-parts (SubrangeType d BooleanType a b) e = refl
text_length-parts (SubrangeType d CharType a b) e = refl
text_length-parts (SubrangeType d NilType a b) e = refl
text_length-parts (SubrangeType d NoMembers a b) e = refl
text_length-parts (SubrangeType d (MembersType b') a b) e = refl
text_length-parts (SubrangeType d (TextType n') a b) e = refl
text_length-parts (SubrangeType d (EnumeratedType d' ns') a b) e = refl
text_length-parts (SubrangeType d (SubrangeType d' h' a' b') a b) e = refl
text_length-parts (SubrangeType d (ArrayType d' p' i' e') a b) e = refl
text_length-parts (SubrangeType d (RecordType d' p' fs') a b) e = refl
text_length-parts (SubrangeType d (SetType d' p' b') a b) e = refl
text_length-parts (SubrangeType d (PointerType d' o' n') a b) e = refl
text_length-parts (ArrayType d p i e) t = refl
text_length-parts (RecordType d p fs) t = refl
text_length-parts (SetType d p b) t = refl
text_length-parts (PointerType d o n) t = refl

-- the length of a string that is an array, or else a text
abbrev string_from : Bool → ℕ → Option Shape → Option Shape → ℕ
string_from p n (Some i) (Some e) = if p then text_length i e else 0
string_from p n (Some i) None = n
string_from p n None e = n

pub string_length-parts : (t : Shape) → string_length t ≡ string_from (is_packed t) (text_size t) (index_of t) (element_of t)
string_length-parts IntegerType = refl
string_length-parts BooleanType = refl
string_length-parts CharType = refl
string_length-parts NilType = refl
string_length-parts NoMembers = refl
string_length-parts (MembersType b) = refl
string_length-parts (TextType n) = refl
string_length-parts (EnumeratedType d ns) = refl
string_length-parts (SubrangeType d h a b) = refl
string_length-parts (ArrayType d true i e) = refl
string_length-parts (ArrayType d false i e) = refl
string_length-parts (RecordType d p fs) = refl
string_length-parts (SetType d p b) = refl
string_length-parts (PointerType d o n) = refl

-- the definition of a shape that has one
pub definition_of-formed : (places : List Place) (shapes : List Shape) (d : Definition) (f : Form) →
    definition_of (formed places shapes d f) ≡ (if is_defined (formed places shapes d f) then Some d else None)
definition_of-formed places shapes d form.Integer = refl
definition_of-formed places shapes d form.Boolean = refl
definition_of-formed places shapes d form.Char = refl
definition_of-formed places shapes d form.Nil = refl
definition_of-formed places shapes d (form.Named ns) = refl
definition_of-formed places shapes d (form.Subrange h a b) = refl
definition_of-formed places shapes d (form.Array p i e) = refl
definition_of-formed places shapes d (form.Record p fs) = refl
definition_of-formed places shapes d (form.Set p b) = refl
definition_of-formed places shapes d (form.Members None) = refl
definition_of-formed places shapes d (form.Members (Some b)) = refl
definition_of-formed places shapes d (form.Text n) = refl
definition_of-formed places shapes d (form.Pointer j) = refl

pub ruleset sets = (compatible_sets-parts)

pub ruleset strings = (text_length-parts, string_length-parts)
