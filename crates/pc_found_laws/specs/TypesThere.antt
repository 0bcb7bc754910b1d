-- The type that the view shows of an expression of a statement part, from what the rules find there.
use Rattle.std.specs.Prelude.{ℕ, ◌≡◌, true, List, Option}
use Rattle.std.specs.Option.{option_and_then}
use Rattle.pc_syntax.specs.Plain.{Plain}
use Rattle.pc_syntax.specs.WellFormed.{IsProper}
use Rattle.pc_types.specs.Expanded.{Ty}
use Rattle.pc_decl.specs.Annotated.{annotated}
use Rattle.pc_decl.specs.FieldTypes.{shape_of}
use Rattle.pc_decl.specs.Nodes.{is_expression}
use Rattle.pc_decl.specs.Roles.{Role, judged_as, role_at}
use Rattle.pc_decl.specs.TypeAt.{structure_of, type_in}
use Rattle.pc_environment.specs.Decorating.{attributes_at}
use Rattle.pc_needs.specs.Unaffected.{IsOneOf}
use Rattle.pc_rules.specs.Attributes.{Attributes}
use Rattle.pc_rules.specs.Errors.{is_program}
use Rattle.pc_rules.specs.Meanings.{Local}
use Rattle.pc_rules.specs.Outsides.{outside_of}
use Rattle.pc_rules.specs.RoutineList.{routines_of}
use Rattle.pc_rules.specs.Routines.{Routine}
use Rattle.pc_found_laws.specs.Ways.{StandsIn}

-- the structure of the type of an expression in a role, from what is found at it
abbrev pub structure_found : Role → Attributes → Option Ty
structure_found e a = option_and_then structure_of (shape_of (judged_as e a).type)

-- the type at the path of an expression is that
abbrev pub TypeLaw : Type 0
TypeLaw = (t : Plain) (r : Routine) (path : List ℕ) (x : Plain) (l : Local) → IsProper t → is_program t.kind ≡ true → IsOneOf (routines_of t) r → StandsIn t r path x l →
    is_expression x.kind ≡ true → type_in (annotated t) path ≡ structure_found (role_at (annotated t) path) (attributes_at (outside_of (routines_of t) r) l x)
