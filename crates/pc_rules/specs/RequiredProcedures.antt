-- Procedure statements, of required procedures too (ISO 7185, 6.6.5.3, 6.8.2.3, 6.9).
use Rattle.std.specs.Prelude.{ℕ, Bool, true, false, ◌&&◌, ◌||◌, ◌==◌, if◌then◌else◌, List, [], ◌∷◌, length, codes, ◌++◌}
use Rattle.std.specs.Str.{bytes_eq}
use Rattle.pc_syntax.specs.Classes.{is_access}
use Rattle.pc_types.specs.TypeClasses.{is_ordinal, is_pointer, is_integer, is_boolean, is_char, is_string}
use Rattle.pc_types.specs.Shapes.{Owner, Shape}
use Rattle.pc_scope.specs.Required.{is_required_procedure}
use Rattle.pc_rules.specs.Attributes.{at_kid, Entry, Attributes, Node, kids_below, first_below, second_below, each_kid}
use Rattle.pc_rules.specs.Arguments.{is_width, no_variable, no_width, tail, declared_procedure}
use Rattle.pc_rules.specs.Components.{no_pointer}
use Rattle.pc_rules.specs.Entries.{note, wrong_number, unless}
use Rattle.pc_rules.specs.HandedOn.{statement_node}
use Rattle.pc_rules.specs.Meanings.{Found, Required}
use Rattle.pc_rules.specs.RequiredFunctions.{has_file}

-- the types of variables that can be read
abbrev pub can_be_read : Shape → Bool
can_be_read t = is_ordinal t && (is_integer t || is_char t)

-- the types of values that can be written
abbrev pub can_be_written : Shape → Bool
can_be_written t = is_string t || (is_ordinal t && (is_integer t || is_char t || is_boolean t))

-- rows 13, 23 and 24 of an argument of read
abbrev pub read_entries : Node → List Entry
read_entries a =
    if is_width a.kind then a.as_value.entries ++ no_variable ++ no_width
    else if is_access a.kind then a.as_place.entries ++ unless can_be_read a.as_place.type (note 23 (codes "cannot be read"))
    else a.as_value.entries ++ no_variable

-- the variables that these arguments of read are
abbrev pub read_variables : List Node → List (Owner × List ℕ)
read_variables [] = []
read_variables (a ∷ rest) = a.variable ++ read_variables rest

-- an integer type or a subrange of it
abbrev pub is_integer_ordinal : Shape → Bool
is_integer_ordinal t = is_ordinal t && is_integer t

-- row 23 of a value that is written
abbrev pub unwritable : Node → List Entry
unwritable value = unless can_be_written value.as_value.type (note 23 (codes "cannot be written"))

-- rows 23 and 24 of an argument of write; one with a width has the value first and the width second
abbrev pub write_entries : Node → List Entry
write_entries a =
    if is_width a.kind then a.as_value.entries ++ unwritable (first_below a) ++ unless is_integer_ordinal (second_below a).as_value.type no_width
    else a.as_value.entries ++ unwritable a

-- rows 13, 15 and 24 of an argument of new
abbrev pub new_entries : Node → List Entry
new_entries a =
    if is_width a.kind then a.as_value.entries ++ no_variable ++ no_width
    else if is_access a.kind then a.as_place.entries ++ no_pointer is_pointer a.as_place.type
    else a.as_value.entries ++ no_variable

-- rows 15 and 24 of an argument of dispose
abbrev pub dispose_entries : Node → List Entry
dispose_entries a = if is_width a.kind then a.as_value.entries ++ no_width else a.as_value.entries ++ no_pointer is_pointer a.as_value.type

-- the arguments behind a file's name, if that stands first
abbrev pub behind_file : Bool → List Node → List Node
behind_file true args = tail args
behind_file false args = args

-- the number of the first of them
abbrev pub number_behind_file : Bool → ℕ
number_behind_file true = 2
number_behind_file false = 1

-- whether there is no argument
abbrev pub is_without : List Node → Bool
is_without [] = true
is_without (a ∷ rest) = false

-- a procedure on a file, whose name may stand first, by the entries of each other argument; row 12 where one is needed and there is none
abbrev pub file_entries : (Node → List Entry) → Bool → Bool → List Node → List Entry
file_entries entries needs named args =
    at_kid 2 (each_kid entries (number_behind_file named) (behind_file named args)) ++ (if needs && is_without (behind_file named args) then wrong_number else [])

-- read, which needs an argument, and readln
abbrev pub input_procedure : Bool → Node → Node → Attributes
input_procedure needs name args =
    let named = has_file (codes "input") (kids_below args) in
    statement_node (name ∷ args ∷ []) (file_entries read_entries needs named (kids_below args)) (read_variables (behind_file named (kids_below args)))

-- write, which needs an argument, and writeln
abbrev pub output_procedure : Bool → Node → Node → Attributes
output_procedure needs name args =
    statement_node (name ∷ args ∷ []) (file_entries write_entries needs (has_file (codes "output") (kids_below args)) (kids_below args)) []

-- new and dispose, which take one argument
abbrev pub pointer_procedure : (Node → List Entry) → Node → Node → Attributes
pointer_procedure entries name args =
    statement_node (name ∷ args ∷ []) (at_kid 2 (each_kid entries 1 (kids_below args)) ++ (if length (kids_below args) == 1 then [] else wrong_number)) []

-- a required procedure
abbrev pub required_procedure : List ℕ → Node → Node → Attributes
required_procedure n name args =
    if bytes_eq n (codes "read") then input_procedure true name args
    else if bytes_eq n (codes "readln") then input_procedure false name args
    else if bytes_eq n (codes "write") then output_procedure true name args
    else if bytes_eq n (codes "writeln") then output_procedure false name args
    else if bytes_eq n (codes "new") then pointer_procedure new_entries name args
    else pointer_procedure dispose_entries name args

-- a procedure statement, by what its name means
abbrev pub procedure_by : Found → Node → Node → Attributes
procedure_by (Required n) name args = if is_required_procedure n then required_procedure n name args else declared_procedure name args
procedure_by f name args = declared_procedure name args

-- a procedure statement
abbrev pub procedure_rule : Node → Node → Attributes
procedure_rule name args = procedure_by name.found name args
