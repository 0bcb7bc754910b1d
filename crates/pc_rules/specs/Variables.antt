-- Names that stand for variables and values (ISO 7185, 6.5.1, 6.5.2, 6.7.1, 6.8.2.2).
use Rattle.std.specs.Prelude.{ℕ, Bool, true, false, not, ◌&&◌, ◌||◌, ◌==◌, if◌then◌else◌, List, [], ◌∷◌, length, Option, Some, None, codes, option_map, ◌++◌}
use Rattle.std.specs.Str.{bytes_eq}
use Rattle.pc_syntax.specs.Sorts.{is_hole}
use Rattle.pc_syntax.specs.Words.{lowered}
use Rattle.pc_types.specs.Sameness.{same_owner}
use Rattle.pc_types.specs.Shapes.{Owner, BooleanType, Fields, LastField, FieldOf, Domain, Typed}
use Rattle.pc_types.specs.TypeClasses.{fields_of, is_packed}
use Rattle.pc_scope.specs.Required.{is_required_constant, is_required_function}
use Rattle.pc_rules.specs.Attributes.{at_kid, Entry, Judged, Attributes, Node, plain, judged}
use Rattle.pc_rules.specs.Constants.{typed_value}
use Rattle.pc_rules.specs.Denoters.{some_typed}
use Rattle.pc_rules.specs.Entries.{wrong_number}
use Rattle.pc_rules.specs.Meanings.{Value, Class, ConstantName, ElementName, FunctionName, Signature, Meaning, Found, Here, Component, Required, Local}
use Rattle.pc_rules.specs.NameClasses.{is_variable_class, is_own_variable, is_function_class, is_value_class}
use Rattle.pc_rules.specs.RequiredMeanings.{required_constant}
use Rattle.pc_rules.specs.UsedNames.{name_entries, never}

-- the type of a variable's name, or of a field's
abbrev pub variable_type : Found → Option Typed
variable_type (Here m) = if is_variable_class m.class then m.type else None
variable_type (Component t p) = Some t
variable_type _ = None

-- whether a name is a field of the record of a with
abbrev pub is_component : Found → Bool
is_component (Component t p) = true
is_component _ = false

-- rows 1, 2 and 4 of a name that stands for a variable; a field's name is one
abbrev pub variable_entries : Node → List Entry
variable_entries name = if is_component name.found then [] else name_entries name is_variable_class never (codes "variable")

-- a name where a variable is needed
abbrev pub variable_judged : Node → Judged
variable_judged name = judged (is_hole name.kind) (at_kid 1 (variable_entries name)) (variable_type name.found)

-- the required names that have a value
abbrev pub is_required_value : List ℕ → Bool
is_required_value n = is_required_constant n || is_required_function n

-- rows 1, 2 and 4 of a name as a value: a variable, a constant, or a function that is called without arguments
abbrev pub value_entries : Node → List Entry
value_entries name = if is_component name.found then [] else name_entries name is_value_class is_required_value (codes "variable")

-- eof and eoln may be called without arguments
abbrev pub is_end_test : List ℕ → Bool
is_end_test n = bytes_eq n (codes "eof") || bytes_eq n (codes "eoln")

-- the result type of a function whose heading is right
abbrev pub result_of : Option Signature → Option Typed
result_of None = None
result_of (Some s) = s.result

-- the type of a constant that is known
abbrev pub type_of_value : Option Value → Option Typed
type_of_value v = option_map typed_value v

-- the type of a declared name as a value, by its class
abbrev pub type_of_meaning : Class → Meaning → Option Typed
type_of_meaning FunctionName m = result_of m.signature
type_of_meaning ConstantName m = type_of_value m.value
type_of_meaning ElementName m = type_of_value m.value
type_of_meaning c m = m.type

-- the type of a name as a value
abbrev pub value_type : Found → Option Typed
value_type (Here m) = type_of_meaning m.class m
value_type (Component t p) = Some t
value_type (Required n) = if is_end_test n then some_typed BooleanType else type_of_value (required_constant n)
value_type _ = None

-- whether a routine has formal parameters
abbrev pub has_formals : Option Signature → Bool
has_formals None = false
has_formals (Some s) = not (length s.formals == 0)

-- row 12: whether a name calls a function that needs arguments
abbrev pub lacks_arguments : Found → Bool
lacks_arguments (Here m) = is_function_class m.class && has_formals m.signature
lacks_arguments (Required n) = is_required_function n && not (is_end_test n)
lacks_arguments _ = false

-- whether a name is that of the function whose block this is
abbrev pub is_self : Option (Owner × List ℕ) → List ℕ → Found → Bool
is_self (Some s) n (Here m) = is_function_class m.class && same_owner s.0 m.owner && bytes_eq s.1 n
is_self _ n f = false

-- a name as the target of an assignment: a variable, or the function whose block this is
abbrev pub target_judged : Local → Node → Judged
target_judged l name = if is_self l.self (lowered name.word) name.found then judged false [] (value_type name.found) else variable_judged name

-- the fields of a record with these domains, each with its type and whether the record is packed
abbrev pub fields_opened : List Domain → Bool → Fields → List (List ℕ × (Typed × Bool))
fields_opened ds p LastField = []
fields_opened ds p (FieldOf n t fs) = (n, (record { shape = t; domains = ds }, p)) ∷ fields_opened ds p fs

-- the fields that an access opens for a with, where its type is known
abbrev pub opened_by : Option Typed → List (List ℕ × (Typed × Bool))
opened_by None = []
opened_by (Some t) = fields_opened t.domains (is_packed t.shape) (fields_of t.shape)

-- the variable of a variable declaration part that a name means
abbrev pub variable_of : List ℕ → Found → List (Owner × List ℕ)
variable_of n (Here m) = if is_own_variable m.class then (m.owner, n) ∷ [] else []
variable_of n _ = []

-- whether a name is a field of a packed record
abbrev pub is_packed_component : Found → Bool
is_packed_component (Component t p) = p
is_packed_component _ = false

-- a name alone, as a variable or a value
abbrev pub reference_rule : Local → Node → Attributes
reference_rule l name = record plain {
  hole = is_hole name.kind;
  as_value = judged (is_hole name.kind) (at_kid 1 (value_entries name) ++ (if lacks_arguments name.found then wrong_number else [])) (value_type name.found);
  as_place = variable_judged name;
  as_target = target_judged l name;
  opens = opened_by (variable_judged name).type;
  variable = variable_of (lowered name.word) name.found;
  packed_part = is_packed_component name.found;
}
