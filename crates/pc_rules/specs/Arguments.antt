-- Arguments of declared routines (ISO 7185, 6.6.3, 6.7.3, 6.8.2.3).
use Rattle.std.specs.Prelude.{ℕ, Bool, true, false, ◌&&◌, ◌==◌, if◌then◌else◌, List, [], ◌∷◌, length, Option, Some, None, codes, option_map, ◌++◌, suc}
use Rattle.std.specs.Option.{is_some}
use Rattle.pc_syntax.specs.declared.kind.Kind.{Kind}
use Rattle.pc_syntax.specs.Classes.{is_access}
use Rattle.pc_types.specs.Sameness.{same}
use Rattle.pc_types.specs.Shapes.{Owner, Shape, Typed}
use Rattle.pc_scope.specs.Required.{is_required_function, is_required_procedure}
use Rattle.pc_rules.specs.Attributes.{at_kid, Entry, Attributes, Node, kids_below}
use Rattle.pc_rules.specs.Entries.{note, disagree, wrong_number, unassignable}
use Rattle.pc_rules.specs.HandedOn.{statement_node}
use Rattle.pc_rules.specs.Meanings.{Formal, Signature, Found, Here}
use Rattle.pc_rules.specs.NameClasses.{is_function_class, is_procedure_class}
use Rattle.pc_rules.specs.Operators.{expression_node}
use Rattle.pc_rules.specs.UsedNames.{name_entries}
use Rattle.pc_rules.specs.Variables.{result_of}
use Rattle.pc_syntax.specs.declared.kind.Kind.TheVariants as kind

-- whether an argument has a field width
abbrev pub is_width : Kind → Bool
is_width kind.Width = true
is_width _ = false

-- row 13
abbrev pub no_variable : List Entry
no_variable = note 13 (codes "not a variable")

-- row 24
abbrev pub no_width : List Entry
no_width = note 24 (codes "width not allowed")

-- whether a parameter is a variable parameter
abbrev pub is_by_place : Option Formal → Bool
is_by_place None = false
is_by_place (Some f) = f.by_place

-- the type of a parameter
abbrev pub formal_shape : Option Formal → Option Shape
formal_shape f = option_map (λ (x : Formal). x.type.shape) f

-- row 11 where the variable's type isn't the parameter's
abbrev pub differs : Option Shape → Option Typed → List Entry
differs (Some t) (Some u) = if same t u.shape then [] else disagree
differs _ _ = []

-- an argument of a variable parameter: row 13, or row 14, or row 11
abbrev pub place_entries : Option Shape → Node → List Entry
place_entries t a =
    if is_access a.kind then a.as_place.entries ++ (if a.packed_part then note 14 (codes "component of a packed variable") else differs t a.as_place.type)
    else a.as_value.entries ++ no_variable

-- an argument, beside the parameter if there is one; a width is out of place here
abbrev pub argument_entries : Option Formal → Node → List Entry
argument_entries f a =
    if is_width a.kind then a.as_value.entries ++ (if is_by_place f then no_variable else []) ++ no_width
    else if is_by_place f then place_entries (formal_shape f) a
    else a.as_value.entries ++ unassignable (formal_shape f) a.as_value.type

-- the first of a list
abbrev pub head : {X : Type 0} → List X → Option X
head [] = None
head (x ∷ xs) = Some x

-- the rest of a list
abbrev pub tail : {X : Type 0} → List X → List X
tail [] = []
tail (x ∷ xs) = xs

-- arguments from argument i on, beside the parameters that are left
abbrev pub arguments_entries : List Formal → ℕ → List Node → List Entry
arguments_entries fs i [] = []
arguments_entries fs i (a ∷ rest) = at_kid i (argument_entries (head fs) a) ++ arguments_entries (tail fs) (suc i) rest

-- the type of an argument: that of a variable where the parameter is a variable parameter
abbrev pub argument_type : Option Formal → Node → Option Typed
argument_type f a = if is_by_place f then a.as_place.type else a.as_value.type

-- whether each argument has a type
abbrev pub arguments_typed : List Formal → List Node → Bool
arguments_typed fs [] = true
arguments_typed fs (a ∷ rest) = is_some (argument_type (head fs) a) && arguments_typed (tail fs) rest

-- the variables that are arguments of variable parameters
abbrev pub passed_by_place : List Formal → List Node → List (Owner × List ℕ)
passed_by_place fs [] = []
passed_by_place fs (a ∷ rest) = (if is_by_place (head fs) then a.variable else []) ++ passed_by_place (tail fs) rest

-- the parameters of a routine, none where its heading has an error or a hole
abbrev pub formals_of : Option Signature → List Formal
formals_of None = []
formals_of (Some s) = s.formals

-- row 12
abbrev pub wrong_count : Option Signature → List Node → List Entry
wrong_count None args = []
wrong_count (Some s) args = if length s.formals == length args then [] else wrong_number

-- a call of a declared routine, whose name has these entries
abbrev pub call_entries : List Entry → Option Signature → List Node → List Entry
call_entries name s args = at_kid 1 name ++ at_kid 2 (arguments_entries (formals_of s) 1 args) ++ wrong_count s args

-- the parameters and result of the function that a name means
abbrev pub function_signature : Found → Option Signature
function_signature (Here m) = if is_function_class m.class then m.signature else None
function_signature f = None

-- the parameters of the procedure that a name means
abbrev pub procedure_signature : Found → Option Signature
procedure_signature (Here m) = if is_procedure_class m.class then m.signature else None
procedure_signature f = None

-- the procedure statement of a declared procedure
abbrev pub declared_procedure : Node → Node → Attributes
declared_procedure name args =
    let s = procedure_signature name.found in
    statement_node (name ∷ args ∷ []) (call_entries (name_entries name is_procedure_class is_required_procedure (codes "procedure")) s (kids_below args))
    (passed_by_place (formals_of s) (kids_below args))

-- the call of a declared function
abbrev pub declared_call : Node → Node → Attributes
declared_call name args =
    let s = function_signature name.found in
    let a = expression_node (name ∷ args ∷ []) (call_entries (name_entries name is_function_class is_required_function (codes "function")) s (kids_below args))
    (if arguments_typed (formals_of s) (kids_below args) then result_of s else None) in
    record a { touches = a.touches ++ passed_by_place (formals_of s) (kids_below args) }
