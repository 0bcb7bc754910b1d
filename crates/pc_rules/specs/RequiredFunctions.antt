-- Calls of functions, required ones too (ISO 7185, 6.6.6, 6.7.3).
use Rattle.std.specs.Prelude.{ℕ, Bool, true, false, not, ◌&&◌, ◌||◌, ◌==◌, if◌then◌else◌, List, [], ◌∷◌, length, Option, Some, None, codes, option_map, ◌++◌}
use Rattle.std.specs.Str.{bytes_eq}
use Rattle.std.specs.Option.{is_some, is_none}
use Rattle.pc_syntax.specs.declared.kind.Kind.{Kind}
use Rattle.pc_types.specs.TypeClasses.{is_ordinal, host, is_integer}
use Rattle.pc_types.specs.Shapes.{Shape, IntegerType, BooleanType, CharType, Typed}
use Rattle.pc_scope.specs.Required.{is_required_function}
use Rattle.pc_rules.specs.Attributes.{at_kid, Entry, Attributes, Node, kids_below, first_below}
use Rattle.pc_rules.specs.Arguments.{tail, declared_call}
use Rattle.pc_rules.specs.Denoters.{typed, some_typed}
use Rattle.pc_rules.specs.Entries.{note_if, wrong_number}
use Rattle.pc_rules.specs.HandedOn.{kid_entries}
use Rattle.pc_rules.specs.Meanings.{Found, Required}
use Rattle.pc_rules.specs.Operators.{expression_node}
use Rattle.pc_rules.specs.Variables.{is_end_test}
use Rattle.pc_syntax.specs.declared.kind.Kind.TheVariants as kind

-- whether a name means that required file
abbrev pub means_file : List ℕ → Found → Bool
means_file file (Required n) = bytes_eq n file
means_file file f = false

-- whether an argument is a name alone
abbrev pub is_reference : Kind → Bool
is_reference kind.Ref = true
is_reference _ = false

-- whether an argument is the name of that required file, which means it here
abbrev pub is_file : List ℕ → Node → Bool
is_file file a = is_reference a.kind && means_file file (first_below a).found

-- whether the first argument is that file
abbrev pub has_file : List ℕ → List Node → Bool
has_file file [] = false
has_file file (a ∷ rest) = is_file file a

-- ord; succ and pred; chr; odd; abs and sqr: what they make of the type of their argument
abbrev pub function_result : List ℕ → Shape → Option Shape
function_result n t =
    if bytes_eq n (codes "ord") then (if is_ordinal t then Some IntegerType else None)
    else if bytes_eq n (codes "succ") || bytes_eq n (codes "pred") then (if is_ordinal t then Some (host t) else None)
    else if not (is_integer t) then None
    else if bytes_eq n (codes "chr") then Some CharType
    else if bytes_eq n (codes "odd") then Some BooleanType
    else Some IntegerType

-- the same, where the type may be unknown
abbrev pub apply_function : List ℕ → Option Typed → Option Typed
apply_function n None = None
apply_function n (Some t) = option_map typed (function_result n t.shape)

-- the type of the first argument
abbrev pub type_of_first : List Node → Option Typed
type_of_first [] = None
type_of_first (a ∷ rest) = a.as_value.type

-- rows 12 and 11 of a function that takes one argument
abbrev pub one_argument : List Node → Bool → List Entry
one_argument args fits = if length args == 1 then note_if (not fits) 11 (codes "types do not agree") else wrong_number

-- a required function of one value
abbrev pub function_of_one : List ℕ → Node → Node → Attributes
function_of_one n name args =
    let argument = type_of_first (kids_below args) in
    let type = apply_function n argument in
    expression_node (name ∷ args ∷ []) (at_kid 2 (kid_entries 1 (kids_below args)) ++ one_argument (kids_below args) (is_none argument || is_some type)) type

-- the entries of eof and eoln with arguments: the one argument is the file input
abbrev pub end_test_entries : List Node → List Entry
end_test_entries args =
    if has_file (codes "input") args then at_kid 2 (kid_entries 2 (tail args)) ++ one_argument args true
    else at_kid 2 (kid_entries 1 args) ++ one_argument args (is_none (type_of_first args))

-- eof and eoln with arguments
abbrev pub end_test : Node → Node → Attributes
end_test name args = expression_node (name ∷ args ∷ []) (end_test_entries (kids_below args)) (some_typed BooleanType)

-- a call of a required function
abbrev pub required_call : List ℕ → Node → Node → Attributes
required_call n name args = if is_end_test n then end_test name args else function_of_one n name args

-- a call, by what its name means
abbrev pub call_by : Found → Node → Node → Attributes
call_by (Required n) name args = if is_required_function n then required_call n name args else declared_call name args
call_by f name args = declared_call name args

-- a function's call with arguments
abbrev pub call_rule : Node → Node → Attributes
call_rule name args = call_by name.found name args
