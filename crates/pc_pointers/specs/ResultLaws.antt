-- What operators and required functions make of types is good.
use Rattle.std.proofs.Common.{◌≡◌, ℕ, List, [], ◌∷◌, Bool, true, false, not, ◌&&◌, ◌||◌, if◌then◌else◌, Option, Some, None, refl}
use Rattle.std.proofs.lemmas.Bool.{false≢true}
use Rattle.std.specs.Prelude.{codes}
use Rattle.std.specs.Str.{bytes_eq}
use Rattle.pc_forms.specs.declared.operator.MulOperator.{MulOperator}
use Rattle.pc_forms.specs.declared.operator.AddOperator.{AddOperator}
use Rattle.pc_forms.specs.declared.operator.RelOperator.{RelOperator}
use Rattle.pc_forms.specs.declared.operator.MulOperator.TheVariants as mul
use Rattle.pc_forms.specs.declared.operator.AddOperator.TheVariants as add
use Rattle.pc_types.specs.Shapes.{Shape, IntegerType, BooleanType, CharType, NilType, NoMembers, MembersType, TextType, EnumeratedType, SubrangeType, ArrayType, RecordType, SetType, PointerType, Domain, Typed}
use Rattle.pc_types.specs.TypeClasses.{is_ordinal, host, is_set, is_integer, is_boolean}
use Rattle.pc_types.specs.Compatibility.{compatible}
use Rattle.pc_rules.specs.Denoters.{some_typed}
use Rattle.pc_rules.specs.Operators.{where_true, unary, binary, is_declared_set, set_type, integer_result, boolean_result, number_or_set_result, multiplied, added, is_related, compared}
use Rattle.pc_rules.specs.RequiredFunctions.{function_result, apply_function}
use Rattle.pc_rules.specs.SetConstructors.{all_compatible, members_type}
use Rattle.pc_pointers.specs.Good.{Targets, Leads, LeadsIfAny, IsGoodType}
use Rattle.pc_pointers.specs.GoodLaws.{either-type, either-shape, alone-good, alone-if-any}

-- what two tests say together
both : (p q : Bool) → (p && q) ≡ true → (p ≡ true) × (q ≡ true)
both true q e = (refl, e)
both false q e = absurd (false≢true e)

-- a shape under a test
where_true-leads : (targets : Targets) (b : Bool) (t : Shape) → (b ≡ true → Leads [] targets t) → LeadsIfAny [] targets (where_true b t)
where_true-leads targets true t h = h refl
where_true-leads targets false t h = tt

-- one of two shapes
either-leads : (ds : List Domain) (targets : Targets) (b : Bool) (t u : Shape) → Leads ds targets t → Leads ds targets u → Leads ds targets (if b then t else u)
either-leads ds targets true t u g h = g
either-leads ds targets false t u g h = h

-- a set type has no pointers that are looked into
set-leads : (targets : Targets) (t : Shape) → is_set t ≡ true → Leads [] targets t
set-leads targets NoMembers e = tt
set-leads targets (MembersType b) e = tt
set-leads targets (SetType d p b) e = tt
set-leads targets IntegerType e = tt
set-leads targets BooleanType e = tt
set-leads targets CharType e = tt
set-leads targets NilType e = tt
set-leads targets (TextType n) e = tt
set-leads targets (EnumeratedType d ns) e = tt
set-leads targets (SubrangeType d t a b) e = absurd (false≢true e)
set-leads targets (ArrayType d p i t) e = absurd (false≢true e)
set-leads targets (RecordType d p fs) e = absurd (false≢true e)
set-leads targets (PointerType d o n) e = absurd (false≢true e)

-- the type of a union, a difference or an intersection
set_type-leads : (targets : Targets) (a b : Shape) → is_set a ≡ true → is_set b ≡ true → Leads [] targets (set_type a b)
set_type-leads targets NoMembers b e f = set-leads targets b f
set_type-leads targets (MembersType a) b e f = either-leads [] targets (is_declared_set b) b (MembersType a) (set-leads targets b f) tt
set_type-leads targets a b e f = set-leads targets a e

-- the result of an operator on numbers or sets
number_or_set-leads : (targets : Targets) (a b : Shape) → LeadsIfAny [] targets (number_or_set_result a b)
number_or_set-leads targets a b =
    either-shape [] targets (is_integer a && is_integer b) (Some IntegerType) (where_true (is_set a && is_set b && compatible a b) (set_type a b)) tt
    (where_true-leads targets (is_set a && is_set b && compatible a b) (set_type a b)
    (λ e.
    let f = both (is_set a && is_set b) (compatible a b) e in
    let g = both (is_set a) (is_set b) f.0 in
    set_type-leads targets a b g.0 g.1))

-- the result of `div` and `mod`
integer-leads : (targets : Targets) (a b : Shape) → LeadsIfAny [] targets (integer_result a b)
integer-leads targets a b = where_true-leads targets (is_integer a && is_integer b) IntegerType (λ e. tt)

-- the result of `and` and `or`
boolean-leads : (targets : Targets) (a b : Shape) → LeadsIfAny [] targets (boolean_result a b)
boolean-leads targets a b = where_true-leads targets (is_boolean a && is_boolean b) BooleanType (λ e. tt)

-- the type of a product
pub multiplied-leads : (targets : Targets) (o : MulOperator) (a b : Shape) → LeadsIfAny [] targets (multiplied o a b)
multiplied-leads targets mul.Times a b = number_or_set-leads targets a b
multiplied-leads targets mul.Div a b = integer-leads targets a b
multiplied-leads targets mul.Mod a b = integer-leads targets a b
multiplied-leads targets mul.And a b = boolean-leads targets a b

-- the type of a sum
pub added-leads : (targets : Targets) (o : AddOperator) (a b : Shape) → LeadsIfAny [] targets (added o a b)
added-leads targets add.Plus a b = number_or_set-leads targets a b
added-leads targets add.Minus a b = number_or_set-leads targets a b
added-leads targets add.Or a b = boolean-leads targets a b

-- the type of a relation
pub compared-leads : (targets : Targets) (o : RelOperator) (a b : Shape) → LeadsIfAny [] targets (compared o a b)
compared-leads targets o a b = where_true-leads targets (is_related o a b) BooleanType (λ e. tt)

-- the result of an operator with two operands
pub binary-good : (targets : Targets) (f : Shape → Shape → Option Shape) (x y : Option Typed) → ((a b : Shape) → LeadsIfAny [] targets (f a b)) → IsGoodType targets (binary f x y)
binary-good targets f None y h = tt
binary-good targets f (Some a) None h = tt
binary-good targets f (Some a) (Some b) h = alone-if-any targets (f a.shape b.shape) (h a.shape b.shape)

-- the result of an operator with one operand
pub unary-good : (targets : Targets) (fits : Shape → Bool) (t : Shape) (x : Option Typed) → Leads [] targets t → IsGoodType targets (unary fits t x)
unary-good targets fits t None h = tt
unary-good targets fits t (Some a) h = either-type targets (fits a.shape) (some_typed t) None (alone-good targets t h) tt

-- the type of a set constructor
pub members-good : (targets : Targets) (ts : List (Option Shape)) → IsGoodType targets (members_type ts)
members-good targets [] = alone-good targets NoMembers tt
members-good targets (None ∷ ts) = tt
members-good targets (Some t ∷ ts) = either-type targets (all_compatible t ts) (some_typed (MembersType (host t))) None (alone-good targets (MembersType (host t)) tt) tt

-- the host of an ordinal type
host-leads : (ds : List Domain) (targets : Targets) (t : Shape) → is_ordinal t ≡ true → Leads ds targets t → Leads [] targets (host t)
host-leads ds targets (SubrangeType d t a b) e h = h
host-leads ds targets IntegerType e h = tt
host-leads ds targets BooleanType e h = tt
host-leads ds targets CharType e h = tt
host-leads ds targets (EnumeratedType d ns) e h = tt
host-leads ds targets NilType e h = tt
host-leads ds targets NoMembers e h = tt
host-leads ds targets (MembersType b) e h = tt
host-leads ds targets (TextType n) e h = tt
host-leads ds targets (SetType d p b) e h = tt
host-leads ds targets (ArrayType d p i t) e h = absurd (false≢true e)
host-leads ds targets (RecordType d p fs) e h = absurd (false≢true e)
host-leads ds targets (PointerType d o n) e h = absurd (false≢true e)

-- the result of succ and pred
neighbour-leads : (ds : List Domain) (targets : Targets) (b : Bool) (t : Shape) → is_ordinal t ≡ b → Leads ds targets t → LeadsIfAny [] targets (if b then Some (host t) else None)
neighbour-leads ds targets true t e h = host-leads ds targets t e h
neighbour-leads ds targets false t e h = tt

-- the result of a required function of one value
function-leads : (ds : List Domain) (targets : Targets) (n : List ℕ) (t : Shape) → Leads ds targets t → LeadsIfAny [] targets (function_result n t)
function-leads ds targets n t h =
    either-shape [] targets (bytes_eq n (codes "ord")) _ _ (either-shape [] targets (is_ordinal t) (Some IntegerType) None tt tt)
    (either-shape [] targets (bytes_eq n (codes "succ") || bytes_eq n (codes "pred")) _ _ (neighbour-leads ds targets (is_ordinal t) t refl h)
    (either-shape [] targets (not (is_integer t)) None _ tt
    (either-shape [] targets (bytes_eq n (codes "chr")) (Some CharType) _ tt (either-shape [] targets (bytes_eq n (codes "odd")) (Some BooleanType) (Some IntegerType) tt tt))))

-- the same, where the type may be unknown
pub function-good : (targets : Targets) (n : List ℕ) (x : Option Typed) → IsGoodType targets x → IsGoodType targets (apply_function n x)
function-good targets n None g = tt
function-good targets n (Some t) g = alone-if-any targets (function_result n t.shape) (function-leads t.domains targets n t.shape g.leads)
