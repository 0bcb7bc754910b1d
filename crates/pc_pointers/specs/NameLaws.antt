-- The types of names whose meanings are good are good.
use Rattle.std.proofs.Common.{ℕ, List, [], ◌∷◌, Bool, true, false, if◌then◌else◌, Option, Some, None, option_map}
use Rattle.std.specs.Prelude.{codes, pos}
use Rattle.std.specs.Str.{bytes_eq}
use Rattle.pc_forms.specs.declared.operator.Sign.{Sign}
use Rattle.pc_types.specs.Shapes.{IntegerType, BooleanType}
use Rattle.pc_types.specs.TypeClasses.{maxint}
use Rattle.pc_rules.specs.Meanings.{Value, Ordinal, Class, ConstantName, ElementName, TypeName, VariableName, ValueName, ReferenceName, ProcedureName, FunctionName, Signature, Meaning, Found, Here, Later, Component, Required, Missing}
use Rattle.pc_rules.specs.RequiredMeanings.{required_constant}
use Rattle.pc_rules.specs.NameClasses.{is_variable_class, is_function_class}
use Rattle.pc_rules.specs.Denoters.{some_typed}
use Rattle.pc_rules.specs.Constants.{value_of_found, signed, text_value}
use Rattle.pc_rules.specs.Variables.{variable_type, is_end_test, result_of, type_of_value, type_of_meaning, value_type}
use Rattle.pc_rules.specs.Arguments.{function_signature}
use Rattle.pc_pointers.specs.Good.{Targets, IsGoodType, IsGoodConstant, IsGoodMeaning, IsGoodFound}
use Rattle.pc_pointers.specs.GoodLaws.{either-type, alone-good}

-- one of two constants
pub either-constant : (targets : Targets) (b : Bool) (v u : Option Value) → IsGoodConstant targets v → IsGoodConstant targets u → IsGoodConstant targets (if b then v else u)
either-constant targets true v u g h = g
either-constant targets false v u g h = h

-- a required constant
required-good : (targets : Targets) (n : List ℕ) → IsGoodConstant targets (required_constant n)
required-good targets n =
    either-constant targets (bytes_eq n (codes "maxint")) (Some (record { type = IntegerType; constant = Ordinal maxint })) _ (alone-good targets IntegerType tt)
    (either-constant targets (bytes_eq n (codes "false")) (Some (record { type = BooleanType; constant = Ordinal (pos 0) })) _ (alone-good targets BooleanType tt)
    (either-constant targets (bytes_eq n (codes "true")) (Some (record { type = BooleanType; constant = Ordinal (pos 1) })) None (alone-good targets BooleanType tt) tt))

-- the value of a text
pub text-good : (targets : Targets) (w : List ℕ) → IsGoodConstant targets (Some (text_value w))
text-good targets [] = record { leads = tt; reached = tt }
text-good targets (c ∷ []) = record { leads = tt; reached = tt }
text-good targets (c ∷ d ∷ w) = record { leads = tt; reached = tt }

-- a constant behind a sign
pub signed-good : (targets : Targets) (s : Sign) (v : Option Value) → IsGoodConstant targets v → IsGoodConstant targets (option_map (signed s) v)
signed-good targets s None g = tt
signed-good targets s (Some v) g = g

-- the value of a name that means a constant
pub constant-good : (targets : Targets) (f : Found) → IsGoodFound targets f → IsGoodConstant targets (value_of_found f)
constant-good targets (Here m) g = g.constant
constant-good targets (Required n) g = required-good targets n
constant-good targets (Later c) g = tt
constant-good targets (Component t p) g = tt
constant-good targets Missing g = tt

-- the type of a name as a variable
pub variable-good : (targets : Targets) (f : Found) → IsGoodFound targets f → IsGoodType targets (variable_type f)
variable-good targets (Here m) g = either-type targets (is_variable_class m.class) m.type None g.typed tt
variable-good targets (Component t p) g = g
variable-good targets (Required n) g = tt
variable-good targets (Later c) g = tt
variable-good targets Missing g = tt

-- the type of a declared name as a value
meaning-good : (targets : Targets) (c : Class) (m : Meaning) → IsGoodMeaning targets m → IsGoodType targets (type_of_meaning c m)
meaning-good targets FunctionName m g = g.result
meaning-good targets ConstantName m g = g.constant
meaning-good targets ElementName m g = g.constant
meaning-good targets TypeName m g = g.typed
meaning-good targets VariableName m g = g.typed
meaning-good targets ValueName m g = g.typed
meaning-good targets ReferenceName m g = g.typed
meaning-good targets ProcedureName m g = g.typed

-- the type of a name as a value
pub value-good : (targets : Targets) (f : Found) → IsGoodFound targets f → IsGoodType targets (value_type f)
value-good targets (Here m) g = meaning-good targets m.class m g
value-good targets (Component t p) g = g
value-good targets (Required n) g =
    either-type targets (is_end_test n) (some_typed BooleanType) (type_of_value (required_constant n)) (alone-good targets BooleanType tt) (required-good targets n)
value-good targets (Later c) g = tt
value-good targets Missing g = tt

-- the result of one of two signatures
either-result : (targets : Targets) (b : Bool) (s : Option Signature) → IsGoodType targets (result_of s) → IsGoodType targets (result_of (if b then s else None))
either-result targets true s g = g
either-result targets false s g = tt

-- the result of the function that a name means
pub result-good : (targets : Targets) (f : Found) → IsGoodFound targets f → IsGoodType targets (result_of (function_signature f))
result-good targets (Here m) g = either-result targets (is_function_class m.class) m.signature g.result
result-good targets (Component t p) g = tt
result-good targets (Required n) g = tt
result-good targets (Later c) g = tt
result-good targets Missing g = tt
