-- The text of the view `decls`: the names that each routine with a key declares.
use Rattle.std.specs.Prelude.{ℕ, List, [], ◌++◌, codes}
use Rattle.std.specs.Option.{option_map_or}
use Rattle.std.specs.List.{flat_map}
use Rattle.pc_syntax.specs.declared.kind.Kind.{Kind}
use Rattle.pc_syntax.specs.Plain.{Plain}
use Rattle.pc_scope.specs.Declarations.{Declared}
use Rattle.pc_decl.specs.Nodes.{above, kind_at}
use Rattle.pc_decl.specs.Annotated.{Annotation, Annotated, annotated}
use Rattle.pc_decl.specs.Declared.{names_of, later_of, routines_with_key}
use Rattle.pc_decl.specs.TypeAt.{type_in}
use Rattle.pc_decl.specs.Shown.{owner_text}
use Rattle.pc_decl.specs.TypeText.{known_or}
use Rattle.pc_syntax.specs.declared.kind.Kind.TheVariants as kind

-- the kind of the node that declares a name, given that of the node above the name: a list of names stands in that
abbrev pub kind_above : Plain → List ℕ → Kind → Kind
kind_above t q kind.Names = kind_at t (above (above q))
kind_above t q k = k

-- the kind of the node that declares the name at a place
abbrev pub declaring_kind : Plain → List ℕ → Kind
declaring_kind t q = kind_above t q (kind_at t (above q))

-- the word for the class of a name that a node of this kind declares
abbrev pub class_text : Kind → List ℕ
class_text kind.Constdef = codes "const"
class_text kind.Typedef = codes "type"
class_text kind.Vardef = codes "var"
class_text kind.Valparam = codes "value"
class_text kind.Varparam = codes "ref"
class_text kind.Enum = codes "element"
class_text kind.Procedure = codes "procedure"
class_text kind.Function = codes "function"
class_text kind.Funbody = codes "function"
class_text k = []

-- the class, and behind a space the type of the name at a place; a procedure has none
abbrev pub class_and_type : Annotated → List ℕ → Kind → List ℕ
class_and_type p q kind.Procedure = class_text kind.Procedure
class_and_type p q k = class_text k ++ codes " " ++ known_or (codes "?") (type_in p q)

-- the line of a name
abbrev pub name_line : Annotated → Declared → List ℕ
name_line p d = codes "  " ++ d.name ++ codes " " ++ class_and_type p d.place (declaring_kind p.tree d.place) ++ codes "\n"

-- the lines of the names of a routine
abbrev pub name_lines : Annotated → Annotation → List ℕ
name_lines p r = flat_map (name_line p) (names_of p.tree r.routine)

-- the lines of a routine: its key, its names, and those of its later declaration
abbrev pub routine_lines : Annotated → Annotation → List ℕ
routine_lines p r = owner_text r.routine.owner ++ codes "\n" ++ name_lines p r ++ option_map_or (name_lines p) (later_of p.routines r) []

-- the text of the view, of a program with what is found at its nodes
abbrev pub decls_in : Annotated → List ℕ
decls_in p = flat_map (routine_lines p) (routines_with_key p)

-- the text of the view
unfoldable pub decls_text : Plain → List ℕ
decls_text t = decls_in (annotated t)
