-- Operators, numerals and texts in expressions (ISO 7185, 6.7.1, 6.7.2).
use Rattle.std.specs.Prelude.{ℕ, Bool, true, false, ◌&&◌, ◌||◌, if◌then◌else◌, List, [], ◌∷◌, Option, Some, None, codes, option_map, ◌++◌}
use Rattle.std.specs.Option.{is_some, is_none}
use Rattle.pc_forms.specs.declared.operator.MulOperator.{MulOperator}
use Rattle.pc_forms.specs.declared.operator.AddOperator.{AddOperator}
use Rattle.pc_forms.specs.declared.operator.RelOperator.{RelOperator}
use Rattle.pc_types.specs.TypeClasses.{is_ordinal, is_set, is_pointer, is_integer, is_boolean, is_string, base_of}
use Rattle.pc_types.specs.Compatibility.{compatible_ordinals, compatible}
use Rattle.pc_types.specs.Shapes.{Shape, IntegerType, BooleanType, NoMembers, MembersType, Typed}
use Rattle.pc_rules.specs.Places.{inner}
use Rattle.pc_rules.specs.Attributes.{Entry, Attributes, Node, plain, judged}
use Rattle.pc_rules.specs.Constants.{characters, number_entries, text_value}
use Rattle.pc_rules.specs.Denoters.{typed, some_typed}
use Rattle.pc_rules.specs.Entries.{note_if}
use Rattle.pc_rules.specs.HandedOn.{kid_entries, any_hole, handed_on, in_all}
use Rattle.pc_forms.specs.declared.operator.MulOperator.TheVariants as mul
use Rattle.pc_forms.specs.declared.operator.AddOperator.TheVariants as add
use Rattle.pc_forms.specs.declared.operator.RelOperator.TheVariants as rel

-- an expression that has this judgement wherever it stands, and hands on the rest
abbrev pub expression_node : List Node → List Entry → Option Typed → Attributes
expression_node kids entries type = in_all (judged (any_hole kids) entries type) (handed_on kids)

-- a node of an operator: its type, or row 11 where the operands have types and there is none
abbrev pub operator_node : List Node → Bool → Option Typed → Attributes
operator_node operands known type =
    expression_node operands (kid_entries 1 operands ++ note_if (known && is_none type) 11 (codes "types do not agree")) type

-- a value where a condition holds
abbrev pub where_true : {X : Type 0} → Bool → X → Option X
where_true b x = if b then Some x else None

-- the result of an operator with one operand, which must be of a class of types
abbrev pub unary : (Shape → Bool) → Shape → Option Typed → Option Typed
unary fits result None = None
unary fits result (Some t) = if fits t.shape then some_typed result else None

-- the result of an operator with two operands of known types
abbrev pub binary : (Shape → Shape → Option Shape) → Option Typed → Option Typed → Option Typed
binary f (Some a) (Some b) = option_map typed (f a.shape b.shape)
binary f _ _ = None

-- a set type that a denoter made, and no constructor's
abbrev pub is_declared_set : Shape → Bool
is_declared_set NoMembers = false
is_declared_set (MembersType b) = false
is_declared_set t = is_set t

-- a declared set type comes before a constructor's, then the left one
abbrev pub set_type : Shape → Shape → Shape
set_type NoMembers b = b
set_type (MembersType a) b = if is_declared_set b then b else MembersType a
set_type a b = a

-- `div` and `mod`, on integers
abbrev pub integer_result : Shape → Shape → Option Shape
integer_result a b = where_true (is_integer a && is_integer b) IntegerType

-- `and` and `or`, on Boolean
abbrev pub boolean_result : Shape → Shape → Option Shape
boolean_result a b = where_true (is_boolean a && is_boolean b) BooleanType

-- `+`, `-` and `*`, on integers, and on sets of compatible types
abbrev pub number_or_set_result : Shape → Shape → Option Shape
number_or_set_result a b = if is_integer a && is_integer b then Some IntegerType else where_true (is_set a && is_set b && compatible a b) (set_type a b)

-- the type of a product
abbrev pub multiplied : MulOperator → Shape → Shape → Option Shape
multiplied mul.Times a b = number_or_set_result a b
multiplied mul.Div a b = integer_result a b
multiplied mul.Mod a b = integer_result a b
multiplied mul.And a b = boolean_result a b

-- the type of a sum
abbrev pub added : AddOperator → Shape → Shape → Option Shape
added add.Plus a b = number_or_set_result a b
added add.Minus a b = number_or_set_result a b
added add.Or a b = boolean_result a b

-- whether an ordinal's type is compatible with the base of a set; the set without members has none
abbrev pub is_in_base : Shape → Option Shape → Bool
is_in_base a None = true
is_in_base a (Some b) = compatible_ordinals a b

-- simple types and strings have all six relations
abbrev pub is_ordered : Shape → Bool
is_ordered a = is_ordinal a || is_string a

-- whether a relation is defined: `in` with an ordinal and a set of a compatible base; the others on compatible types, `<` and `>` on
-- simple types and strings, `<=` and `>=` on sets too, `=` and `<>` on pointers too
abbrev pub is_related : RelOperator → Shape → Shape → Bool
is_related rel.In a b = is_ordinal a && is_set b && is_in_base a (base_of b)
is_related rel.Less a b = compatible a b && is_ordered a
is_related rel.Greater a b = compatible a b && is_ordered a
is_related rel.AtMost a b = compatible a b && (is_ordered a || is_set a)
is_related rel.AtLeast a b = compatible a b && (is_ordered a || is_set a)
is_related rel.Equal a b = compatible a b && (is_ordered a || is_set a || is_pointer a)
is_related rel.Unequal a b = compatible a b && (is_ordered a || is_set a || is_pointer a)

-- the type of a relation
abbrev pub compared : RelOperator → Shape → Shape → Option Shape
compared o a b = where_true (is_related o a b) BooleanType

-- an operator with two operands
abbrev pub binary_rule : (Shape → Shape → Option Shape) → Node → Node → Attributes
binary_rule f left right =
    operator_node (left ∷ right ∷ []) (is_some left.as_value.type && is_some right.as_value.type) (binary f left.as_value.type right.as_value.type)

-- an operator with one operand
abbrev pub unary_rule : (Shape → Bool) → Shape → Node → Attributes
unary_rule fits result operand = operator_node (operand ∷ []) (is_some operand.as_value.type) (unary fits result operand.as_value.type)

-- an expression in parentheses
abbrev pub parentheses_rule : Node → Attributes
parentheses_rule inner = operator_node (inner ∷ []) false inner.as_value.type

-- an expression without parts
abbrev pub constant_expression : List Entry → Shape → Attributes
constant_expression entries t = in_all (judged false entries (some_typed t)) plain

-- a numeral in an expression, with row 5
abbrev pub number_expression : List ℕ → Attributes
number_expression word = constant_expression (number_entries word) IntegerType

-- a text in an expression
abbrev pub text_expression : List ℕ → Attributes
text_expression word = constant_expression [] (text_value (characters word)).type
