-- The parts of arrays, as the rules have them.
use Rattle.std.proofs.Common.{◌≡◌, refl}
use Rattle.pc_types.specs.Outlined.{index_of, element_of}
use Rattle.pc_types.specs.Shapes.{Shape, IntegerType, BooleanType, CharType, NilType, NoMembers, MembersType, TextType, EnumeratedType, SubrangeType, ArrayType, RecordType, SetType, PointerType}
use Rattle.pc_rules.specs.Components.{index_type_of, element_type}

pub index_of-rule : (t : Shape) → index_of t ≡ index_type_of t
index_of-rule IntegerType = refl
index_of-rule BooleanType = refl
index_of-rule CharType = refl
index_of-rule NilType = refl
index_of-rule NoMembers = refl
index_of-rule (MembersType m) = refl
index_of-rule (TextType n) = refl
index_of-rule (EnumeratedType d ns) = refl
index_of-rule (SubrangeType d h x y) = refl
index_of-rule (ArrayType d p i e) = refl
index_of-rule (RecordType d p fs) = refl
index_of-rule (SetType d p m) = refl
index_of-rule (PointerType d o n) = refl

pub element_of-rule : (t : Shape) → element_of t ≡ element_type t
element_of-rule IntegerType = refl
element_of-rule BooleanType = refl
element_of-rule CharType = refl
element_of-rule NilType = refl
element_of-rule NoMembers = refl
element_of-rule (MembersType m) = refl
element_of-rule (TextType n) = refl
element_of-rule (EnumeratedType d ns) = refl
element_of-rule (SubrangeType d h x y) = refl
element_of-rule (ArrayType d p i e) = refl
element_of-rule (RecordType d p fs) = refl
element_of-rule (SetType d p m) = refl
element_of-rule (PointerType d o n) = refl

pub ruleset arrays = (index_of-rule, element_of-rule)
