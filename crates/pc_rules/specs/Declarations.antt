-- Declarations of constants, types, variables, and of routines (ISO 7185, 6.2.1, 6.3, 6.4.1, 6.5.1, 6.6.1, 6.6.2).
use Rattle.std.specs.Prelude.{ℕ, Bool, false, not, ◌&&◌, ◌==◌, if◌then◌else◌, List, [], ◌∷◌, length, Option, Some, None, codes, ◌++◌}
use Rattle.std.specs.Option.{option_and_then}
use Rattle.pc_syntax.specs.declared.kind.Kind.{Kind}
use Rattle.pc_syntax.specs.Sorts.{is_hole}
use Rattle.pc_types.specs.Domains.{closed}
use Rattle.pc_types.specs.Shapes.{Typed}
use Rattle.pc_scope.specs.Headings.{Heading, is_function_kind, any_pairs, has_later}
use Rattle.pc_rules.specs.Attributes.{at_kid, Entry, Attributes, Node, plain, kids_below, judged}
use Rattle.pc_rules.specs.DeclaringNames.{names_in, repeats, second_name, declares, all_as}
use Rattle.pc_rules.specs.Denoters.{type_of_found, type_name_entries}
use Rattle.pc_rules.specs.Entries.{note_if, quoted}
use Rattle.pc_rules.specs.HandedOn.{any_hole, all_defines, handed_on}
use Rattle.pc_rules.specs.Meanings.{Class, ConstantName, TypeName, VariableName, ProcedureName, FunctionName, Meaning, declared_as, Local}

-- a declaration with its entries, and what it declares
abbrev pub declaration : List Node → List Entry → List (List ℕ × Meaning) → Attributes
declaration kids entries defines = record plain { hole = any_hole kids; as_value = judged (any_hole kids) entries None; defines = defines }

-- a constant definition
abbrev pub constant_definition_rule : Local → Node → Node → Attributes
constant_definition_rule l name value =
    declaration (name ∷ value ∷ []) (at_kid 1 (second_name l name) ++ at_kid 2 value.as_value.entries)
    (declares name (record (declared_as ConstantName l.owner) { value = value.constant }))

-- a type definition, with the constants of the enumerated types in it
abbrev pub type_definition_rule : Local → Node → Node → Attributes
type_definition_rule l name denoter =
    declaration (name ∷ denoter ∷ []) (at_kid 1 (second_name l name) ++ at_kid 2 denoter.as_value.entries)
    (declares name (record (declared_as TypeName l.owner) { type = denoter.as_value.type }) ++ denoter.defines)

-- a type with what is reached from it, none where that has an error or a hole
abbrev pub completed : Option Typed → Option Typed
completed t = option_and_then (λ (x : Typed). closed x.domains (Some x.shape)) t

-- a variable declaration, with the constants of the enumerated types in it
abbrev pub variable_declaration_rule : Local → Node → Node → Attributes
variable_declaration_rule l names denoter =
    declaration (names ∷ denoter ∷ []) (at_kid 1 (repeats l.passed 1 (kids_below names)) ++ at_kid 2 denoter.as_value.entries)
    (all_as (record (declared_as VariableName l.owner) { type = completed denoter.as_value.type }) (names_in (kids_below names)) ++ denoter.defines)

-- a list whose elements declare names hands them on
abbrev pub declarations_rule : List Node → Attributes
declarations_rule kids = record (handed_on kids) { defines = all_defines kids }

-- ---- routines

-- the first of some headings
abbrev pub head_or : List Heading → Heading
head_or [] = record { name = []; is_function = false; is_forward = false }
head_or (h ∷ hs) = h

-- the heading of the routine that stands here
abbrev pub heading_here : Local → Heading
heading_here l = head_or l.ahead

-- the headings behind the first
abbrev pub rest_of : List Heading → List Heading
rest_of [] = []
rest_of (h ∷ hs) = hs

-- whether the routine that stands here is the later declaration of a forward one: it has a block, and a forward routine waits that
-- pairs with it
abbrev pub is_later_declaration : Local → Bool
is_later_declaration l = not (heading_here l).is_forward && any_pairs (heading_here l) l.waiting

-- the class of a routine's name
abbrev pub routine_class : Kind → Class
routine_class k = if is_function_kind k then FunctionName else ProcedureName

-- row 22 at the name of a function whose heading has no result type
abbrev pub no_result_type : Bool → Node → List Entry
no_result_type has_type name = note_if (not has_type && not (is_hole name.kind)) 22 (quoted (codes "result type not simple") name.word)

-- row 20: a forward routine without a later declaration
abbrev pub no_block : Local → Node → List Entry
no_block l name =
    note_if ((heading_here l).is_forward && not (is_hole name.kind) && not (has_later (heading_here l) (rest_of l.ahead))) 20 (quoted (codes "forward has no block") name.word)

-- rows 3, 20, 21 and 22 of a routine, as far as its block decides them, given whether its heading has parameters or a result type,
-- and whether it has the result type that it needs
abbrev pub routine_entries : Local → Bool → Bool → Node → List Entry
routine_entries l given has_type name =
    if is_later_declaration l then note_if given 21 (quoted (codes "heading given again") name.word)
    else at_kid 1 (second_name l name ++ no_result_type has_type name) ++ no_block l name

-- a routine: a later declaration declares nothing
abbrev pub routine_rule : Local → Class → Bool → Bool → Node → List Node → Attributes
routine_rule l c given has_type name rest =
    declaration (name ∷ rest) (routine_entries l given has_type name) (if is_later_declaration l then [] else declares name (declared_as c l.owner))

-- whether a routine has formal parameters in its heading
abbrev pub has_kids : Node → Bool
has_kids n = not (length (kids_below n) == 0)

-- a group of formal parameters of a class
abbrev pub parameter_rule : Local → Class → Node → Node → Attributes
parameter_rule l c names type_name =
    declaration (names ∷ type_name ∷ []) (at_kid 1 (repeats l.passed 1 (kids_below names)) ++ at_kid 2 (type_name_entries type_name))
    (all_as (record (declared_as c l.owner) { type = type_of_found type_name.found }) (names_in (kids_below names)))
