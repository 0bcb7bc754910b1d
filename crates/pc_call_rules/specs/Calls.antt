-- What is found at a call's name and its arguments.
use Rattle.std.specs.Prelude.{◌≡◌, ℕ, Bool, true, false, not, ◌||◌, ◌==◌, if◌then◌else◌, List, [], ◌∷◌, Option, Some, None, option_map, codes, length}
use Rattle.std.specs.Str.{bytes_eq}
use Rattle.pc_scope.specs.Spelled.{spelling}
use Rattle.pc_scope.specs.Required.{is_required_function, is_required_procedure}
use Rattle.pc_scope.specs.declared.builtin.Builtin.{Builtin}
use Rattle.pc_types.specs.Shapes.{Owner}
use Rattle.pc_types.specs.Table.{Table}
use Rattle.pc_types.specs.declared.operand.Operand.{Operand}
use Rattle.pc_types.specs.declared.operand.Operand.TheVariants.{Id}
use Rattle.pc_rules.specs.Attributes.{Attributes, Node, kids_below}
use Rattle.pc_rules.specs.Arguments.{tail, formals_of, passed_by_place, function_signature, procedure_signature}
use Rattle.pc_rules.specs.HandedOn.{any_hole}
use Rattle.pc_rules.specs.Meanings.{Found, Required}
use Rattle.pc_rules.specs.RequiredFunctions.{has_file}
use Rattle.pc_rules.specs.RequiredProcedures.{read_variables, behind_file, output_procedure, pointer_procedure, new_entries, dispose_entries}
use Rattle.pc_facts.specs.Known.{Known}
use Rattle.pc_facts.specs.Shows.{ShowsName, ShowsArgument, AllShow}
use Rattle.pc_facts.specs.declared.sighting.Sighting.{Sighting}
use Rattle.pc_facts.specs.declared.sighting.Sighting.TheVariants as sighting
use Rattle.pc_facts.specs.declared.sighting.Named.{Named}
use Rattle.pc_facts.specs.declared.sighting.Formal.{Formal}
use Rattle.pc_facts.specs.declared.sighting.Signature.{Signature}
use Rattle.pc_facts.specs.declared.facts.Argument.{Argument}

-- the name and the arguments of a call are these; a hole stands in the list of arguments where one stands in one of them
pub record ShowsCall (k : Known) (t : Table) (named : Named) (args : List Argument) (n a : Node) : Type 0 where
  pub table : k.table ≡ t
  pub name : ShowsName k named n.at
  pub hole : a.at.hole ≡ any_hole (kids_below a)
  pub passed : AllShow (ShowsArgument k) args (kids_below a)

-- what stands behind the name of a file, if that stands first
abbrev pub behind_name : {X : Type 0} → Bool → List X → List X
behind_name true xs = tail xs
behind_name false xs = xs

-- the required function that a name means
abbrev pub function_in : Sighting → Option Builtin
function_in (sighting.Required b) = if is_required_function (spelling b) then Some b else None
function_in _ = None

-- the required procedure that a name means
abbrev pub procedure_in : Sighting → Option Builtin
procedure_in (sighting.Required b) = if is_required_procedure (spelling b) then Some b else None
procedure_in _ = None

-- the formal parameters of a signature
abbrev pub formals_in : Option Signature → List Formal
formals_in None = []
formals_in (Some s) = s.formals.items

-- the result type of a signature
abbrev pub result_in : Option Signature → Option Operand
result_in None = None
result_in (Some s) = option_map Id s.result

-- whether a signature has another number of parameters
abbrev pub miscounts : Option Signature → ℕ → Bool
miscounts None n = false
miscounts (Some s) n = not (length s.formals.items == n)

-- the variables that a call of a function touches itself, by what its name means
abbrev pub call_touches : Found → List Node → List (Owner × List ℕ)
call_touches f args = passed_by_place (formals_of (function_signature f)) args

-- the statement of a required procedure that reads no variable
abbrev pub silent_procedure : List ℕ → Node → Node → Attributes
silent_procedure n name args =
    if bytes_eq n (codes "write") then output_procedure true name args
    else if bytes_eq n (codes "writeln") then output_procedure false name args
    else if bytes_eq n (codes "new") then pointer_procedure new_entries name args
    else pointer_procedure dispose_entries name args

-- the variables that the statement of a required procedure touches itself: those that are read
abbrev pub required_touches : List ℕ → List Node → List (Owner × List ℕ)
required_touches n args =
    if bytes_eq n (codes "read") || bytes_eq n (codes "readln") then read_variables (behind_file (has_file (codes "input") args) args) else []

-- the variables that a procedure statement touches itself, by what its name means
abbrev pub procedure_touches : Found → List Node → List (Owner × List ℕ)
procedure_touches (Required n) args = if is_required_procedure n then required_touches n args else []
procedure_touches f args = passed_by_place (formals_of (procedure_signature f)) args
