-- The type at a place of a program: of an expression, or of what a name declares.
use Rattle.std.specs.Prelude.{ℕ, if◌then◌else◌, List, [], ◌∷◌, Option, Some, None}
use Rattle.std.specs.Option.{option_and_then, option_or}
use Rattle.std.specs.List.{find}
use Rattle.std.specs.Str.{bytes_eq}
use Rattle.pc_syntax.specs.declared.kind.Kind.{Kind}
use Rattle.pc_syntax.specs.Plain.{Plain}
use Rattle.pc_syntax.specs.Places.{at}
use Rattle.pc_syntax.specs.Words.{lowered}
use Rattle.pc_types.specs.Shapes.{Shape, NilType, NoMembers}
use Rattle.pc_types.specs.Expanded.{Ty, expanded}
use Rattle.pc_scope.specs.Declarations.{Declared}
use Rattle.pc_decl.specs.Nodes.{is_expression}
use Rattle.pc_decl.specs.Annotated.{Annotation, Annotated, annotated}
use Rattle.pc_decl.specs.Roles.{expression_type}
use Rattle.pc_decl.specs.Declared.{names_of, shape_of_name}
use Rattle.pc_decl.specs.FieldTypes.{shape_of, field_shape_at}
use Rattle.pc_syntax.specs.declared.kind.Kind.TheVariants as kind

-- the type that the name at a place declares in a routine, if it is one of the routine's
abbrev pub shape_in : Plain → Annotation → List ℕ → Option Shape
shape_in t r q = option_and_then (λ (d : Declared). shape_of_name r d.name) (find (λ (d : Declared). bytes_eq d.place q) (names_of t r.routine))

-- the same in one of these routines
abbrev pub shape_in_any : Plain → List Annotation → List ℕ → Option Shape
shape_in_any t [] q = None
shape_in_any t (r ∷ rs) q = option_or (shape_in t r q) (shape_in_any t rs q)

-- the type of what a name declares at its place: in a routine, or as a field; the second of equal names declares nothing
abbrev pub declared_shape : Annotated → List ℕ → Kind → List ℕ → Option Shape
declared_shape p q kind.Name n = option_or (shape_in_any p.tree p.routines q) (field_shape_at p n q)
declared_shape p q k n = None

-- the type of the node at a place
abbrev pub shape_of_node : Annotated → List ℕ → Plain → Option Shape
shape_of_node p q node = if is_expression node.kind then shape_of (expression_type p q) else declared_shape p q node.kind (lowered node.word)

-- the type at a place
unfoldable pub shape_at : Annotated → List ℕ → Option Shape
shape_at p q = option_and_then (shape_of_node p q) (at q p.tree)

-- the structure alone, with all names expanded; `nil` and a set constructor without members have none
abbrev pub structure_of : Shape → Option Ty
structure_of NilType = None
structure_of NoMembers = None
structure_of t = Some (expanded t)

-- the structure of the type at a place of a program with what is found at its nodes
unfoldable pub type_in : Annotated → List ℕ → Option Ty
type_in p q = option_and_then structure_of (shape_at p q)

-- The structure of the type of the expression at a place, or of what the name there declares; none where that is unknown.
unfoldable pub type_at : Plain → List ℕ → Option Ty
type_at t q = type_in (annotated t) q
