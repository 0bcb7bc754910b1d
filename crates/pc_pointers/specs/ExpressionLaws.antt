-- What is found at constants, names, components, operators and calls is good.
use Rattle.std.proofs.Common.{ℕ, List, [], ◌∷◌, Bool, true, false, if◌then◌else◌, Option, Some, None, option_map}
use Rattle.std.specs.Prelude.{codes, map, option_and_then}
use Rattle.std.specs.Str.{bytes_eq}
use Rattle.pc_syntax.specs.Words.{lowered}
use Rattle.pc_forms.specs.declared.operator.Sign.{Sign}
use Rattle.pc_scope.specs.Required.{is_required_function, is_required_procedure}
use Rattle.pc_types.specs.Shapes.{Shape, BooleanType, Typed}
use Rattle.pc_rules.specs.Meanings.{Found, Here, Later, Component, Required, Missing, Local}
use Rattle.pc_syntax.specs.Sorts.{is_hole}
use Rattle.pc_rules.specs.Attributes.{Entry, Node, at_kid, judged, kids_below}
use Rattle.pc_rules.specs.HandedOn.{any_hole}
use Rattle.pc_rules.specs.Constants.{value_of_found, signed, constant_name_rule, signed_constant_rule, characters, text_value}
use Rattle.pc_rules.specs.Denoters.{some_typed}
use Rattle.pc_rules.specs.Operators.{binary, unary, binary_rule, unary_rule, constant_expression, text_expression}
use Rattle.pc_rules.specs.SetConstructors.{member_values, member_type, members_type, set_constructor_rule}
use Rattle.pc_rules.specs.Variables.{variable_entries, variable_type, value_type, variable_judged, is_self, is_end_test, result_of, reference_rule}
use Rattle.pc_rules.specs.Components.{all_typed, indexed_type, index_rule, field_type, select_rule, domain_of, dereference_rule}
use Rattle.pc_rules.specs.Arguments.{function_signature, formals_of, arguments_typed, declared_procedure, declared_call}
use Rattle.pc_rules.specs.RequiredFunctions.{end_test, function_of_one, required_call, call_by, apply_function, type_of_first}
use Rattle.pc_rules.specs.RequiredProcedures.{required_procedure, procedure_by}
use Rattle.pc_rules.specs.Statements.{records_rule}
use Rattle.pc_pointers.specs.Good.{Targets, Leads, LeadsIfAny, IsGoodType, IsGoodAt, IsGoodNode, AllNodesGood}
use Rattle.pc_pointers.specs.GoodLaws.{either-type, judged-good, alone-good, field-good, domain-good, opened-good}
use Rattle.pc_pointers.specs.ResultLaws.{binary-good, unary-good, members-good, function-good}
use Rattle.pc_pointers.specs.NameLaws.{text-good, signed-good, constant-good, variable-good, value-good, result-good}
use Rattle.pc_pointers.specs.NodeLaws.{either-at, nodes-good, statement-good, expression-good, component_node-good, constant_node-good, all-opened-good, first-good, indexed-good}

-- a constant's name
pub constant_name-good : (targets : Targets) (name : Node) → IsGoodNode targets name → IsGoodAt targets (constant_name_rule name)
constant_name-good targets name g = constant_node-good targets (is_hole name.kind) _ (value_of_found name.found) (constant-good targets name.found g.here.meant)

-- a constant behind a sign
pub signed_constant-good : (targets : Targets) (s : Sign) (constant : Node) → IsGoodNode targets constant → IsGoodAt targets (signed_constant_rule s constant)
signed_constant-good targets s constant g = constant_node-good targets constant.hole _ (option_map (signed s) constant.constant) (signed-good targets s constant.constant g.here.fixed)

-- an expression without parts
pub constant_expression-good : (targets : Targets) (es : List Entry) (t : Shape) → Leads [] targets t → IsGoodAt targets (constant_expression es t)
constant_expression-good targets es t h =
    let j = judged-good targets false es (some_typed t) (alone-good targets t h) in
    record { meant = tt; value = j; place = j; target = j; fixed = tt; opened = tt }

-- a text
pub text_expression-good : (targets : Targets) (w : List ℕ) → IsGoodAt targets (text_expression w)
text_expression-good targets w = constant_expression-good targets [] (text_value (characters w)).type (text-good targets (characters w)).leads

-- an operator with one operand
pub unary_rule-good : (targets : Targets) (fits : Shape → Bool) (t : Shape) (operand : Node) → Leads [] targets t → IsGoodAt targets (unary_rule fits t operand)
unary_rule-good targets fits t operand h = expression-good targets (operand ∷ []) _ (unary fits t operand.as_value.type) (unary-good targets fits t operand.as_value.type h)

-- an operator with two operands
pub binary_rule-good : (targets : Targets) (f : Shape → Shape → Option Shape) (left right : Node) → ((a b : Shape) → LeadsIfAny [] targets (f a b)) → IsGoodAt targets (binary_rule f left right)
binary_rule-good targets f left right h =
    expression-good targets (left ∷ right ∷ []) _ (binary f left.as_value.type right.as_value.type) (binary-good targets f left.as_value.type right.as_value.type h)

-- a set constructor
pub set_constructor-good : (targets : Targets) (members : Node) → IsGoodAt targets (set_constructor_rule members)
set_constructor-good targets members =
    let types = map member_type (member_values (kids_below members)) in
    expression-good targets (members ∷ []) _ (members_type types) (members-good targets types)

-- one of two judgements of a name as a target
target-good : (targets : Targets) (b : Bool) (name : Node) → IsGoodNode targets name → IsGoodType targets (if b then judged false [] (value_type name.found) else variable_judged name).type
target-good targets true name g = judged-good targets false [] (value_type name.found) (value-good targets name.found g.here.meant)
target-good targets false name g = judged-good targets (is_hole name.kind) (at_kid 1 (variable_entries name)) (variable_type name.found) (variable-good targets name.found g.here.meant)

-- a name alone
pub reference-good : (targets : Targets) (l : Local) (name : Node) → IsGoodNode targets name → IsGoodAt targets (reference_rule l name)
reference-good targets l name g =
    let place = judged-good targets (is_hole name.kind) (at_kid 1 (variable_entries name)) (variable_type name.found) (variable-good targets name.found g.here.meant) in
    record {
      meant = tt;
      value = judged-good targets (is_hole name.kind) _ (value_type name.found) (value-good targets name.found g.here.meant);
      place = place;
      target = target-good targets (is_self l.self (lowered name.word) name.found) name g;
      fixed = tt;
      opened = opened-good targets (variable_judged name).type place;
    }

-- an indexed variable
pub index-good : (targets : Targets) (array indexes : Node) → IsGoodNode targets array → IsGoodAt targets (index_rule array indexes)
index-good targets array indexes g =
    component_node-good targets (array ∷ indexes ∷ []) _ _ _
    (either-type targets (all_typed (kids_below indexes)) (indexed_type array.as_place.type (kids_below indexes)) None
    (indexed-good targets array.as_place.type (kids_below indexes) g.here.place) tt)

-- a field
pub select-good : (targets : Targets) (whole field : Node) → IsGoodNode targets whole → IsGoodAt targets (select_rule whole field)
select-good targets whole field g =
    component_node-good targets (whole ∷ field ∷ []) _ (field_type whole.as_place.type (lowered field.word)) _ (field-good targets whole.as_place.type (lowered field.word) g.here.place)

-- what a pointer leads to, where its type may be unknown
led_to-good : (targets : Targets) (t : Option Typed) → IsGoodType targets t → IsGoodType targets (option_and_then (λ (x : Typed). domain_of x.domains x.shape) t)
led_to-good targets None g = tt
led_to-good targets (Some t) g = domain-good targets t.domains t.shape g.reached

-- what a pointer leads to
pub dereference-good : (targets : Targets) (pointer : Node) → IsGoodNode targets pointer → IsGoodAt targets (dereference_rule pointer)
dereference-good targets pointer g = component_node-good targets (pointer ∷ []) _ _ false (led_to-good targets pointer.as_place.type g.here.place)

-- the accesses of a with
pub records-good : (targets : Targets) (ns : List Node) → AllNodesGood targets ns → IsGoodAt targets (records_rule ns)
records-good targets ns g = record {
  meant = tt;
  value = judged-good targets (any_hole ns) _ None tt;
  place = tt;
  target = tt;
  fixed = tt;
  opened = all-opened-good targets ns g;
}

-- a required procedure
required_procedure-good : (targets : Targets) (n : List ℕ) (name args : Node) → IsGoodAt targets (required_procedure n name args)
required_procedure-good targets n name args =
    let kids = name ∷ args ∷ [] in
    either-at targets (bytes_eq n (codes "read")) _ _ (statement-good targets kids _ _)
    (either-at targets (bytes_eq n (codes "readln")) _ _ (statement-good targets kids _ _)
    (either-at targets (bytes_eq n (codes "write")) _ _ (statement-good targets kids _ _)
    (either-at targets (bytes_eq n (codes "writeln")) _ _ (statement-good targets kids _ _)
    (either-at targets (bytes_eq n (codes "new")) _ _ (statement-good targets kids _ _) (statement-good targets kids _ _)))))

-- a declared procedure
declared_procedure-good : (targets : Targets) (name args : Node) → IsGoodAt targets (declared_procedure name args)
declared_procedure-good targets name args = statement-good targets (name ∷ args ∷ []) _ _

-- a procedure statement
pub procedure-good : (targets : Targets) (f : Found) (name args : Node) → IsGoodAt targets (procedure_by f name args)
procedure-good targets (Required n) name args =
    either-at targets (is_required_procedure n) (required_procedure n name args) (declared_procedure name args) (required_procedure-good targets n name args) (declared_procedure-good targets name args)
procedure-good targets (Here m) name args = declared_procedure-good targets name args
procedure-good targets (Later c) name args = declared_procedure-good targets name args
procedure-good targets (Component t p) name args = declared_procedure-good targets name args
procedure-good targets Missing name args = declared_procedure-good targets name args

-- the call of a declared function
declared_call-good : (targets : Targets) (name args : Node) → IsGoodNode targets name → IsGoodAt targets (declared_call name args)
declared_call-good targets name args g =
    let s = function_signature name.found in
    let j = judged-good targets (any_hole (name ∷ args ∷ [])) _ (if arguments_typed (formals_of s) (kids_below args) then result_of s else None)
    (either-type targets (arguments_typed (formals_of s) (kids_below args)) (result_of s) None (result-good targets name.found g.here.meant) tt) in
    record { meant = tt; value = j; place = j; target = j; fixed = tt; opened = tt }

-- a call of a required function
required_call-good : (targets : Targets) (n : List ℕ) (name args : Node) → IsGoodNode targets args → IsGoodAt targets (required_call n name args)
required_call-good targets n name args g =
    either-at targets (is_end_test n) (end_test name args) (function_of_one n name args)
    (expression-good targets (name ∷ args ∷ []) _ (some_typed BooleanType) (alone-good targets BooleanType tt))
    (expression-good targets (name ∷ args ∷ []) _ (apply_function n (type_of_first (kids_below args)))
    (function-good targets n (type_of_first (kids_below args)) (first-good targets (kids_below args) (nodes-good targets args.below g.under))))

-- a call
pub call-good : (targets : Targets) (f : Found) (name args : Node) → IsGoodNode targets name → IsGoodNode targets args → IsGoodAt targets (call_by f name args)
call-good targets (Required n) name args g h =
    either-at targets (is_required_function n) (required_call n name args) (declared_call name args) (required_call-good targets n name args h) (declared_call-good targets name args g)
call-good targets (Here m) name args g h = declared_call-good targets name args g
call-good targets (Later c) name args g h = declared_call-good targets name args g
call-good targets (Component t p) name args g h = declared_call-good targets name args g
call-good targets Missing name args g h = declared_call-good targets name args g
