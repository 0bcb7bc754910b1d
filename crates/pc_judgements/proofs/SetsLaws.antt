-- The type of a union, a difference or an intersection.
use Rattle.std.proofs.Common.{◌≡◌, Bool, true, false, not, ◌||◌, if◌then◌else◌, refl}
use Rattle.std.specs.Option.{is_none}
use Rattle.pc_types.specs.TypeClasses.{is_set, is_constructed, base_of}
use Rattle.pc_types.specs.Shapes.{Shape, IntegerType, BooleanType, CharType, NilType, NoMembers, MembersType, TextType, EnumeratedType, SubrangeType, ArrayType, RecordType, SetType, PointerType}
use Rattle.pc_rules.specs.Operators.{set_type, is_declared_set}
use Rattle.pc_judgements.specs.Judged.{keeps_left}

members-kept : (b : Bool) (s t : Shape) → (if b then s else t) ≡ (if not b then t else s)
members-kept true s t = refl
members-kept false s t = refl

-- one of the two types
pub set_type-one : (a b : Shape) → set_type a b ≡ (if keeps_left a b then a else b)
set_type-one IntegerType b = refl
set_type-one BooleanType b = refl
set_type-one CharType b = refl
set_type-one NilType b = refl
set_type-one NoMembers b = refl
set_type-one (MembersType m) b = members-kept (is_declared_set b) b (MembersType m)
set_type-one (TextType n) b = refl
set_type-one (EnumeratedType d ns) b = refl
set_type-one (SubrangeType d h x y) b = refl
set_type-one (ArrayType d p i e) b = refl
set_type-one (RecordType d p fs) b = refl
set_type-one (SetType d p m) b = refl
set_type-one (PointerType d o n) b = refl

declared-set : (b : Shape) → not (is_declared_set b) ≡ (is_constructed b || not (is_set b))
declared-set IntegerType = refl
declared-set BooleanType = refl
declared-set CharType = refl
declared-set NilType = refl
declared-set NoMembers = refl
declared-set (MembersType m) = refl
declared-set (TextType n) = refl
declared-set (EnumeratedType d ns) = refl
declared-set (SubrangeType d h x y) = refl
declared-set (ArrayType d p i e) = refl
declared-set (RecordType d p fs) = refl
declared-set (SetType d p m) = refl
declared-set (PointerType d o n) = refl

-- which, by the tests of types
pub keeps_left-tests : (a b : Shape) → keeps_left a b ≡ (if not (is_constructed a) then true else if is_none (base_of a) then false else is_constructed b || not (is_set b))
keeps_left-tests IntegerType b = refl
keeps_left-tests BooleanType b = refl
keeps_left-tests CharType b = refl
keeps_left-tests NilType b = refl
keeps_left-tests NoMembers b = refl
keeps_left-tests (MembersType m) b = declared-set b
keeps_left-tests (TextType n) b = refl
keeps_left-tests (EnumeratedType d ns) b = refl
keeps_left-tests (SubrangeType d h x y) b = refl
keeps_left-tests (ArrayType d p i e) b = refl
keeps_left-tests (RecordType d p fs) b = refl
keeps_left-tests (SetType d p m) b = refl
keeps_left-tests (PointerType d o n) b = refl

pub ruleset sets = (set_type-one, keeps_left-tests)
