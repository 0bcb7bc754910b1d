-- Headings of routines, and of the program: their entries, and the signature that they give (ISO 7185, 6.6.1 to 6.6.3, 6.10).
use Rattle.std.specs.Prelude.{ℕ, Bool, not, ◌&&◌, ◌||◌, if◌then◌else◌, List, [], ◌∷◌, Option, Some, None, codes, option_map, ◌++◌}
use Rattle.std.specs.Option.{option_and_then}
use Rattle.pc_syntax.specs.declared.kind.Kind.{Kind}
use Rattle.pc_syntax.specs.Sorts.{is_hole}
use Rattle.pc_syntax.specs.Words.{lowered}
use Rattle.pc_types.specs.TypeClasses.{is_ordinal, is_pointer}
use Rattle.pc_types.specs.Shapes.{Typed}
use Rattle.pc_scope.specs.Required.{is_required_file}
use Rattle.pc_rules.specs.Attributes.{at_kid, is_empty, Entry, Marked, Node, kids_below, second_below, each_kid}
use Rattle.pc_rules.specs.Denoters.{type_of_found, type_name_entries}
use Rattle.pc_rules.specs.Entries.{note, note_if, quoted, unless}
use Rattle.pc_rules.specs.Meanings.{Formal, Signature, Meaning}
use Rattle.pc_rules.specs.NameClasses.{is_reference_class}
use Rattle.pc_rules.specs.Routines.{Routine, heading_marks, params_in, result_in}
use Rattle.pc_syntax.specs.declared.kind.Kind.TheVariants as kind

-- row 25 at a name in the program's heading
abbrev pub program_parameter_entries : Node → List Entry
program_parameter_entries name =
    note_if (not (is_hole name.kind) && not (is_required_file (lowered name.word))) 25 (quoted (codes "program parameter") name.word)

-- rows 1, 2 and 4 at the type name of a group of parameters that a later declaration repeats; a hole has none
abbrev pub repeated_entries : Node → List Entry
repeated_entries group = if is_hole group.kind then [] else at_kid 2 (type_name_entries (second_below group))

-- the entries of parameters: what a later declaration repeats declares nothing, but its type names are used ones
abbrev pub parameter_entries : Bool → Node → List Entry
parameter_entries later params = if later then each_kid repeated_entries 1 (kids_below params) else params.as_value.entries

-- row 22, where the type is known
abbrev pub not_simple : List ℕ → Option Typed → List Entry
not_simple w t = unless (λ x. is_ordinal x || is_pointer x) t (note 22 (quoted (codes "result type not simple") w))

-- the entries of a function's result type: row 22 counts where the heading does
abbrev pub result_entries : Bool → Node → List Entry
result_entries later result = type_name_entries result ++ (if later then [] else not_simple result.word (type_of_found result.found))

-- the entries of the heading of a kind of routine
abbrev pub entries_of_heading : Kind → Bool → Marked → List Entry
entries_of_heading kind.Program later m = at_kid 2 (each_kid program_parameter_entries 1 (kids_below (params_in m)))
entries_of_heading kind.Procedure later m = at_kid 2 (parameter_entries later (params_in m))
entries_of_heading kind.Function later m = at_kid 2 (parameter_entries later (params_in m)) ++ at_kid 3 (result_entries later (result_in m))
entries_of_heading k later m = []

-- the entries of a routine's heading
abbrev pub heading_entries : Routine → List Entry
heading_entries r = entries_of_heading r.kind r.is_later (heading_marks r)

-- the formal parameters, where the type of each is known
abbrev pub formals_in : List (List ℕ × Meaning) → Option (List Formal)
formals_in [] = Some []
formals_in (d ∷ ds) =
    option_and_then (λ (t : Typed). option_map (λ (fs : List Formal). record { name = d.0; by_place = is_reference_class d.1.class; type = t } ∷ fs) (formals_in ds)) d.1.type

-- the signature with these parameters: a function needs a result type
abbrev pub with_result : Kind → Option Typed → List Formal → Option Signature
with_result kind.Procedure t fs = Some (record { formals = fs; result = None })
with_result kind.Function (Some t) fs = Some (record { formals = fs; result = Some t })
with_result k t fs = None

-- parameters and result of a routine; none where they have an error or a hole
abbrev pub signature_in : Routine → Option Signature
signature_in r =
    if (params_in (heading_marks r)).hole || not (is_empty (heading_entries r)) then None
    else option_and_then (with_result r.kind (type_of_found (result_in (heading_marks r)).found)) (formals_in (params_in (heading_marks r)).defines)
