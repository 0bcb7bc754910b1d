-- The lines of the view `decls` from what was kept of the routines of a program.
use Rattle.std.specs.Prelude.{ℕ, Bool, ◌&&◌, nat_eq, if◌then◌else◌, List, [], ◌++◌, Option, Some, None, codes, slice_get, option_map}
use Rattle.std.specs.Option.{option_and_then, option_map_or}
use Rattle.std.specs.List.{find, flat_map}
use Rattle.pc_syntax.specs.declared.kind.Kind.{Kind}
use Rattle.pc_syntax.specs.declared.kind.Kind.TheVariants as kind
use Rattle.pc_types.specs.Expanded.{expanded}
use Rattle.pc_types.specs.Table.{Table, shape_at}
use Rattle.pc_types.specs.declared.operand.Operand.{Operand}
use Rattle.pc_types.specs.declared.operand.Operand.TheVariants as operand
use Rattle.pc_names.specs.declared.name_class.NameClass.{NameClass}
use Rattle.pc_names.specs.declared.name_class.NameClass.TheVariants as class
use Rattle.pc_facts.specs.declared.sighting.Declared.{Declared}
use Rattle.pc_facts.specs.declared.sighting.Sighting.{Sighting}
use Rattle.pc_facts.specs.declared.sighting.Sighting.TheVariants as sighting
use Rattle.pc_facts.specs.declared.sighting.Signature.{Signature}
use Rattle.pc_facts.specs.declared.sighting.SignatureId.{SignatureId}
use Rattle.pc_facts.specs.declared.sighting.Value.{Value}
use Rattle.pc_decl.specs.DeclsText.{class_text}
use Rattle.pc_decl.specs.Shown.{key_text}
use Rattle.pc_decl.specs.TypeText.{type_text}
use Rattle.pc_own_names.specs.declared.own_name.OwnName.{OwnName}
use Rattle.pc_own_names.specs.declared.own_name.RoutineNames.{RoutineNames}

-- ---- types

-- the type of a constant's value
abbrev pub type_of_value : Option Value → Option Operand
type_of_value v = option_map (λ (x : Value). x.of) v

-- the type of a function's result
abbrev pub result_in : Signature → Option Operand
result_in s = option_map operand.Id s.result

-- the same by the number of the function's signature, if it has one
abbrev pub result_type : List Signature → Option SignatureId → Option Operand
result_type signatures None = None
result_type signatures (Some i) = option_and_then result_in (slice_get signatures i.0)

-- the type that goes with a declaration of this class: of a constant's value, of a function's result, of a variable, or the type itself
abbrev pub type_declared : List Signature → NameClass → Declared → Option Operand
type_declared signatures class.Constant d = type_of_value d.value
type_declared signatures class.Element d = type_of_value d.value
type_declared signatures class.Function d = result_type signatures d.signature
type_declared signatures class.Procedure d = None
type_declared signatures c d = d.of

-- the type of what a name means, if that is a declaration that stands before
abbrev pub type_meant : List Signature → Sighting → Option Operand
type_meant signatures (sighting.Here d) = type_declared signatures d.class d
type_meant signatures s = None

-- the text of a type by its number, and a question mark where it is unknown
abbrev pub type_shown : Table → Option Operand → List ℕ
type_shown table None = codes "?"
type_shown table (Some o) = type_text (expanded (shape_at table o))

-- ---- lines

-- the class, and behind a space the type of a name that a node of this kind declares; a procedure has none
abbrev pub class_and_kept_type : Table → List Signature → Kind → Sighting → List ℕ
class_and_kept_type table signatures kind.Procedure s = class_text kind.Procedure
class_and_kept_type table signatures k s = class_text k ++ codes " " ++ type_shown table (type_meant signatures s)

-- the line of a name
abbrev pub kept_name_line : Table → List Signature → OwnName → List ℕ
kept_name_line table signatures x = codes "  " ++ x.name ++ codes " " ++ class_and_kept_type table signatures x.kind x.meaning ++ codes "\n"

-- the lines of the names of a routine
abbrev pub kept_name_lines : Table → List Signature → RoutineNames → List ℕ
kept_name_lines table signatures x = flat_map (kept_name_line table signatures) x.names.items

-- the lines of a routine with this key: the key, its names, and those of its later declaration
abbrev pub kept_key_lines : Table → List Signature → RoutineNames → Option RoutineNames → List (List ℕ) → List ℕ
kept_key_lines table signatures x later key =
    key_text key ++ codes "\n" ++ kept_name_lines table signatures x ++ option_map_or (kept_name_lines table signatures) later []

-- the lines that a routine has in the view: none without a key, and none for a later declaration
abbrev pub kept_routine_lines : Table → List Signature → RoutineNames → Option RoutineNames → List ℕ
kept_routine_lines table signatures x later = if x.is_later then [] else option_map_or (kept_key_lines table signatures x later) x.key []

-- ---- later declarations

-- whether it is the later declaration of the routine with this number as an owner
abbrev pub is_later_of : ℕ → RoutineNames → Bool
is_later_of n x = x.is_later && nat_eq x.owner.0 n

-- the lines of a routine among these, which tell its later declaration
abbrev pub kept_lines_among : Table → List Signature → List RoutineNames → RoutineNames → List ℕ
kept_lines_among table signatures all x = kept_routine_lines table signatures x (find (is_later_of x.owner.0) all)

-- the text of the view
abbrev pub kept_decls : Table → List Signature → List RoutineNames → List ℕ
kept_decls table signatures all = flat_map (kept_lines_among table signatures all) all
