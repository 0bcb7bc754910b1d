-- The names that the routines of a program declare, and their types (ISO 7185, 6.2.1, 6.6.1, 6.6.2).
use Rattle.std.specs.Prelude.{ℕ, not, ◌&&◌, if◌then◌else◌, List, [], ◌∷◌, ◌++◌, Option, Some, None, map}
use Rattle.std.specs.Option.{option_map, option_and_then}
use Rattle.std.specs.List.{find as first_with, filter}
use Rattle.pc_syntax.specs.Plain.{Plain}
use Rattle.pc_syntax.specs.Words.{is_among}
use Rattle.pc_types.specs.Shapes.{Shape, Typed}
use Rattle.pc_types.specs.Sameness.{same_owner}
use Rattle.pc_scope.specs.Blocks.{block_kids}
use Rattle.pc_scope.specs.Declarations.{Declared, declared_at}
use Rattle.pc_scope.specs.Waiting.{parameters_of}
use Rattle.pc_rules.specs.Meanings.{Value, Class, ConstantName, ElementName, ProcedureName, FunctionName, Signature, Meaning, Found, Here, find}
use Rattle.pc_rules.specs.Routines.{Routine}
use Rattle.pc_decl.specs.Nodes.{kids_at}
use Rattle.pc_decl.specs.Annotated.{Annotation, Annotated}

-- ---- names

-- these names without those that stand before, and of equal ones the first alone
abbrev pub without_seconds : List (List ℕ) → List Declared → List Declared
without_seconds before [] = []
without_seconds before (d ∷ ds) = if is_among before d.name then without_seconds before ds else d ∷ without_seconds (d.name ∷ before) ds

-- the parameters that a routine's heading declares; those that a later declaration repeats declare nothing
abbrev pub heading_names : Plain → Routine → List Declared
heading_names t r = if r.is_later then [] else parameters_of r.place (kids_at t r.place)

-- the names that a routine's own block declares
abbrev pub block_names : Plain → Routine → List Declared
block_names t r = declared_at (r.place ++ r.block_kid ∷ []) 1 (block_kids (kids_at t r.place))

-- the names of the parameters that a later declaration has from its forward heading
abbrev pub given_names : Routine → List (List ℕ)
given_names r = if r.is_later then map (λ (d : List ℕ × Meaning). d.0) r.given else []

-- the names that a routine declares in its heading and its own block, in text order, of equal ones the first alone
abbrev pub names_of : Plain → Routine → List Declared
names_of t r = without_seconds (given_names r) (heading_names t r ++ block_names t r)

-- ---- routines

-- the later declaration of a routine with a key, if there is one
abbrev pub later_of : List Annotation → Annotation → Option Annotation
later_of rs r = first_with (λ (l : Annotation). l.routine.is_later && same_owner l.routine.owner r.routine.owner) rs

-- the routines that have a key, by the headings that count, in their order
unfoldable pub routines_with_key : Annotated → List Annotation
routines_with_key p = filter (λ (r : Annotation). r.routine.has_key && not r.routine.is_later) p.routines

-- ---- what a name means in the routine that declares it

-- the declaration that is found, if it stands before
abbrev pub declaration_found : Found → Option Meaning
declaration_found (Here m) = Some m
declaration_found f = None

-- what a name of a routine means where its block ends
unfoldable pub meaning_in : Annotation → List ℕ → Option Meaning
meaning_in r n = declaration_found (find r.outside r.ending n)

-- the type of a function's result
abbrev pub result_shape : Signature → Option Shape
result_shape s = option_map (λ (t : Typed). t.shape) s.result

-- the type that goes with a declaration of this class: of a constant's value, of a function's result, of a variable, or the type itself
abbrev pub shape_declared : Class → Meaning → Option Shape
shape_declared ConstantName m = option_map (λ (v : Value). v.type) m.value
shape_declared ElementName m = option_map (λ (v : Value). v.type) m.value
shape_declared FunctionName m = option_and_then result_shape m.signature
shape_declared ProcedureName m = None
shape_declared c m = option_map (λ (t : Typed). t.shape) m.type

-- the type that a name of a routine declares
abbrev pub shape_of_name : Annotation → List ℕ → Option Shape
shape_of_name r n = option_and_then (λ (m : Meaning). shape_declared m.class m) (meaning_in r n)
