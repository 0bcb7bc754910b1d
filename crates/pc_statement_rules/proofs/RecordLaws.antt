-- Records and texts, by the tests of types.
use Rattle.std.proofs.Common.{◌≡◌, refl, not, ◌&&◌}
use Rattle.pc_types.specs.Outlined as outlined
use Rattle.pc_types.specs.Shapes.{Shape, IntegerType, BooleanType, CharType, NilType, NoMembers, MembersType, TextType, EnumeratedType, SubrangeType, ArrayType, RecordType, SetType, PointerType}
use Rattle.pc_types.specs.TypeClasses.{is_ordinal, is_set, is_pointer}
use Rattle.pc_rules.specs.CaseStatements.{is_text_type}
use Rattle.pc_rules.specs.Components.{is_record}

pub is_record-rule : (t : Shape) → outlined.is_record t ≡ is_record t
is_record-rule IntegerType = refl
is_record-rule BooleanType = refl
is_record-rule CharType = refl
is_record-rule NilType = refl
is_record-rule NoMembers = refl
is_record-rule (MembersType m) = refl
is_record-rule (TextType n) = refl
is_record-rule (EnumeratedType d ns) = refl
is_record-rule (SubrangeType d h x y) = refl
is_record-rule (ArrayType d p i e) = refl
is_record-rule (RecordType d p fs) = refl
is_record-rule (SetType d p m) = refl
is_record-rule (PointerType d o n) = refl

-- only a text's type has no class
pub is_text_type-rule : (t : Shape) → is_text_type t ≡ (not (is_ordinal t) && not (is_set t) && not (is_pointer t) && not (outlined.is_array t) && not (outlined.is_record t))
is_text_type-rule IntegerType = refl
is_text_type-rule BooleanType = refl
is_text_type-rule CharType = refl
is_text_type-rule NilType = refl
is_text_type-rule NoMembers = refl
is_text_type-rule (MembersType m) = refl
is_text_type-rule (TextType n) = refl
is_text_type-rule (EnumeratedType d ns) = refl
is_text_type-rule (SubrangeType d h x y) = refl
is_text_type-rule (ArrayType d p i e) = refl
is_text_type-rule (RecordType d p fs) = refl
is_text_type-rule (SetType d p m) = refl
is_text_type-rule (PointerType d o n) = refl

pub ruleset records = (is_record-rule)

pub ruleset texts = (is_text_type-rule)
