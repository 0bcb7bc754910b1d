-- The lines of a routine in the view `decls`, from what is known of it and the tree alone.
use Rattle.std.specs.Prelude.{◌≡◌, ℕ, List, [], ◌++◌, codes}
use Rattle.std.specs.Option.{option_map_or}
use Rattle.std.specs.List.{flat_map}
use Rattle.pc_syntax.specs.declared.kind.Kind.{Kind}
use Rattle.pc_syntax.specs.Plain.{Plain}
use Rattle.pc_syntax.specs.WellFormed.{IsProper}
use Rattle.pc_scope.specs.Declarations.{Declared}
use Rattle.pc_decl.specs.Annotated.{Annotation, annotated}
use Rattle.pc_decl.specs.Declared.{names_of, later_of, routines_with_key}
use Rattle.pc_decl.specs.DeclsText.{declaring_kind, class_text, decls_text}
use Rattle.pc_decl.specs.Shown.{owner_text}
use Rattle.pc_decl.specs.TypeText.{known_or}
use Rattle.pc_decl_laws.specs.OwnTypes.{own_type}
use Rattle.pc_syntax.specs.declared.kind.Kind.TheVariants as kind

-- the class, and behind a space the type of a name of a routine; a procedure has none
abbrev pub class_and_own_type : Annotation → List ℕ → Kind → List ℕ
class_and_own_type r n kind.Procedure = class_text kind.Procedure
class_and_own_type r n k = class_text k ++ codes " " ++ known_or (codes "?") (own_type r n)

-- the line of a name of a routine
abbrev pub own_name_line : Plain → Annotation → Declared → List ℕ
own_name_line t r d = codes "  " ++ d.name ++ codes " " ++ class_and_own_type r d.name (declaring_kind t d.place) ++ codes "\n"

-- the lines of the names of a routine
abbrev pub own_name_lines : Plain → Annotation → List ℕ
own_name_lines t r = flat_map (own_name_line t r) (names_of t r.routine)

-- the lines of a routine among these: its key, its names, and those of its later declaration
abbrev pub own_routine_lines : Plain → List Annotation → Annotation → List ℕ
own_routine_lines t rs r = owner_text r.routine.owner ++ codes "\n" ++ own_name_lines t r ++ option_map_or (own_name_lines t) (later_of rs r) []

-- they are the text of the view
abbrev pub LinesLaw : Type 0
LinesLaw = (t : Plain) → IsProper t → decls_text t ≡ flat_map (own_routine_lines t (annotated t).routines) (routines_with_key (annotated t))
