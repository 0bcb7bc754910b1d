-- A block with what is found at each node, from left to right: one rule for each form of node. Only a name that is used looks outside.
use Rattle.std.specs.Prelude.{ℕ, Bool, true, false, if◌then◌else◌, List, [], ◌∷◌}
use Rattle.pc_syntax.specs.declared.kind.Kind.{Kind}
use Rattle.pc_syntax.specs.Plain.{Forest, Nil, Cons}
use Rattle.pc_syntax.specs.Words.{lowered}
use Rattle.pc_forms.specs.Form.{form_from}
use Rattle.pc_forms.specs.FormKids.{kids_in}
use Rattle.pc_forms.specs.FormMap.{FormOf}
use Rattle.pc_types.specs.Shapes.{IntegerType, BooleanType, NilType}
use Rattle.pc_types.specs.TypeClasses.{is_integer, is_boolean}
use Rattle.pc_rules.specs.Declarations.{has_kids, constant_definition_rule, type_definition_rule, variable_declaration_rule, declarations_rule, routine_rule, parameter_rule}
use Rattle.pc_rules.specs.Operators.{added, multiplied, compared, binary_rule, unary_rule, parentheses_rule, constant_expression, number_expression, text_expression}
use Rattle.pc_rules.specs.Places.{inner, beside}
use Rattle.pc_rules.specs.Attributes.{Attributes, Marked, Done, Mark, Node, plain, nodes, missing}
use Rattle.pc_rules.specs.CaseStatements.{case_rule}
use Rattle.pc_rules.specs.Components.{index_rule, select_rule, dereference_rule}
use Rattle.pc_rules.specs.Constants.{number_rule, string_rule, constant_name_rule, signed_constant_rule}
use Rattle.pc_rules.specs.Denoters.{type_name_rule, enumerated_rule, subrange_rule, pointer_rule}
use Rattle.pc_rules.specs.ForStatements.{for_rule}
use Rattle.pc_rules.specs.HandedOn.{handed_on}
use Rattle.pc_rules.specs.Meanings.{ValueName, ReferenceName, ProcedureName, FunctionName, Found, Missing, Local, Outside, find}
use Rattle.pc_rules.specs.RequiredFunctions.{call_rule}
use Rattle.pc_rules.specs.RequiredProcedures.{procedure_rule}
use Rattle.pc_rules.specs.SetConstructors.{set_constructor_rule}
use Rattle.pc_rules.specs.Statements.{assign_rule, condition_rule, repeat_rule, records_rule}
use Rattle.pc_rules.specs.StructuredTypes.{array_rule, record_rule, no_fields_rule, set_rule, packed_rule}
use Rattle.pc_rules.specs.Variables.{reference_rule}
use Rattle.pc_syntax.specs.declared.kind.Kind.TheVariants as kind
use Rattle.pc_forms.specs.declared.form.Form.TheVariants as form

-- what a used name means, and whether a routine in the block changes that variable
pub record Seen : Type 0 where
  pub found : Found
  pub changed : Bool

-- nothing
abbrev pub unseen : Seen
unseen = record { found = Missing; changed = false }

-- what a node looks up
abbrev pub seen : Outside → Local → Kind → List ℕ → Seen
seen out l kind.Name w = if l.using then record { found = find out l (lowered w); changed = out.touched (lowered w) } else unseen
seen out l k w = unseen

-- a name
abbrev pub name_rule : Seen → Attributes
name_rule s = record plain { found = s.found; changed = s.changed }

-- a hole
abbrev pub hole_rule : Attributes
hole_rule = record plain { hole = true }

-- what is found at a node, from where it stands, what it looks up, and the form of its kids; its kind and word aside
abbrev pub rule_of : Local → Seen → FormOf Node → Attributes
rule_of l s (form.Name word) = name_rule s
rule_of l s (form.Hole sort) = hole_rule
rule_of l s (form.Cnumber word) = number_rule word
rule_of l s (form.Cstring word) = string_rule word
rule_of l s (form.Cname name) = constant_name_rule name
rule_of l s (form.Csign sign constant) = signed_constant_rule sign constant
rule_of l s (form.Tname name) = type_name_rule name
rule_of l s (form.Enum names) = enumerated_rule l names
rule_of l s (form.Subrange low high) = subrange_rule l low high
rule_of l s (form.Array indexes element) = array_rule l indexes element
rule_of l s (form.Record fields) = record_rule l fields
rule_of l s form.Record0 = no_fields_rule l
rule_of l s (form.Setof base) = set_rule l base
rule_of l s (form.Packed unpacked) = packed_rule unpacked
rule_of l s (form.Pointer name) = pointer_rule l name
rule_of l s (form.Ref name) = reference_rule l name
rule_of l s (form.Index array indexes) = index_rule array indexes
rule_of l s (form.Select whole field) = select_rule whole field
rule_of l s (form.Deref pointer) = dereference_rule pointer
rule_of l s (form.Number word) = number_expression word
rule_of l s (form.Text word) = text_expression word
rule_of l s form.Nil = constant_expression [] NilType
rule_of l s (form.Parens inner) = parentheses_rule inner
rule_of l s (form.Not operand) = unary_rule is_boolean BooleanType operand
rule_of l s (form.Sign sign operand) = unary_rule is_integer IntegerType operand
rule_of l s (form.Mul left operator right) = binary_rule (multiplied operator) left right
rule_of l s (form.Add left operator right) = binary_rule (added operator) left right
rule_of l s (form.Rel left operator right) = binary_rule (compared operator) left right
rule_of l s (form.Setcon members) = set_constructor_rule members
rule_of l s (form.Call name args) = call_rule name args
rule_of l s (form.Proc name args) = procedure_rule name args
rule_of l s (form.Assign target value) = assign_rule target value
rule_of l s (form.If condition body) = condition_rule condition (body ∷ [])
rule_of l s (form.Ifelse condition body otherwise) = condition_rule condition (body ∷ otherwise ∷ [])
rule_of l s (form.While condition body) = condition_rule condition (body ∷ [])
rule_of l s (form.Repeat stmts condition) = repeat_rule stmts condition
rule_of l s (form.Case selector arms) = case_rule selector arms
rule_of l s (form.For control first downwards last body) = for_rule l control first last body
rule_of l s (form.Accesses accesses) = records_rule accesses
rule_of l s (form.Constdef name value) = constant_definition_rule l name value
rule_of l s (form.Typedef name denoter) = type_definition_rule l name denoter
rule_of l s (form.Vardef names denoter) = variable_declaration_rule l names denoter
rule_of l s (form.Consts definitions) = declarations_rule definitions
rule_of l s (form.Types definitions) = declarations_rule definitions
rule_of l s (form.Vars declarations) = declarations_rule declarations
rule_of l s (form.Routines routines) = declarations_rule routines
rule_of l s (form.Indexes indexes) = declarations_rule indexes
rule_of l s (form.Fields fields) = declarations_rule fields
rule_of l s (form.Field names denoter) = declarations_rule (names ∷ denoter ∷ [])
rule_of l s (form.Params groups) = declarations_rule groups
rule_of l s (form.Procedure name params block) = routine_rule l ProcedureName (has_kids params) true name (params ∷ block ∷ [])
rule_of l s (form.Function name params result block) = routine_rule l FunctionName true true name (params ∷ result ∷ block ∷ [])
rule_of l s (form.Funbody name block) = routine_rule l FunctionName false false name (block ∷ [])
rule_of l s (form.Valparam names type_name) = parameter_rule l ValueName names type_name
rule_of l s (form.Varparam names type_name) = parameter_rule l ReferenceName names type_name
rule_of l s f = handed_on (kids_in f)

-- a node of this kind, with this word
abbrev pub with_kind : Kind → List ℕ → Attributes → Attributes
with_kind k w a = record a { kind = k; word = w }

-- the attributes of a node, from where it stands, its kind and word, what it looks up, and the attributes of what is below it
unfoldable pub rule : Local → Kind → List ℕ → Seen → Marked → Attributes
rule l k w s below = with_kind k w (rule_of l s (form_from k w (nodes below) missing))

-- trees in a row with their attributes, from where the first stands
unfoldable pub decorate : Outside → Local → Forest → Marked
decorate out l Nil = Done
decorate out l (Cons k w ns ks ts) =
    let below = decorate out (inner l k ks) ks in
    let a = rule l k w (seen out l k w) below in
    Mark a below (decorate out (beside l k a) ts)
