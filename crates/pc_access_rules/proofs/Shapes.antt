-- Classes of types, as the rules have them.
use Rattle.std.proofs.Common.{◌≡◌, not, Option, Some, None, option_map, refl}
use Rattle.std.specs.Option.{is_none}
use Rattle.pc_types.specs.Outlined.{is_array, is_record, domain_place}
use Rattle.pc_types.specs.Shapes.{Shape, IntegerType, BooleanType, CharType, NilType, NoMembers, MembersType, TextType, EnumeratedType, SubrangeType, ArrayType, RecordType, SetType, PointerType}
use Rattle.pc_rules.specs.Components as rule

pub is_array-rule : (t : Shape) → is_array t ≡ rule.is_array t
is_array-rule IntegerType = refl
is_array-rule BooleanType = refl
is_array-rule CharType = refl
is_array-rule NilType = refl
is_array-rule NoMembers = refl
is_array-rule (MembersType m) = refl
is_array-rule (TextType n) = refl
is_array-rule (EnumeratedType d ns) = refl
is_array-rule (SubrangeType d h x y) = refl
is_array-rule (ArrayType d p i e) = refl
is_array-rule (RecordType d p fs) = refl
is_array-rule (SetType d p m) = refl
is_array-rule (PointerType d o n) = refl

pub is_record-rule : (t : Shape) → is_record t ≡ rule.is_record t
is_record-rule IntegerType = refl
is_record-rule BooleanType = refl
is_record-rule CharType = refl
is_record-rule NilType = refl
is_record-rule NoMembers = refl
is_record-rule (MembersType m) = refl
is_record-rule (TextType n) = refl
is_record-rule (EnumeratedType d ns) = refl
is_record-rule (SubrangeType d h x y) = refl
is_record-rule (ArrayType d p i e) = refl
is_record-rule (RecordType d p fs) = refl
is_record-rule (SetType d p m) = refl
is_record-rule (PointerType d o n) = refl

-- a pointer type has a domain
pub has_domain : (t : Shape) → is_none (domain_place t) ≡ not (rule.is_made_pointer t)
has_domain IntegerType = refl
has_domain BooleanType = refl
has_domain CharType = refl
has_domain NilType = refl
has_domain NoMembers = refl
has_domain (MembersType m) = refl
has_domain (TextType n) = refl
has_domain (EnumeratedType d ns) = refl
has_domain (SubrangeType d h x y) = refl
has_domain (ArrayType d p i e) = refl
has_domain (RecordType d p fs) = refl
has_domain (SetType d p m) = refl
has_domain (PointerType d o n) = refl

pub is_none-map : {X Y : Type 0} (f : X → Y) (o : Option X) → is_none (option_map f o) ≡ is_none o
is_none-map f None = refl
is_none-map f (Some x) = refl

pub ruleset shapes = (is_array-rule, is_record-rule, has_domain, is_none-map)
