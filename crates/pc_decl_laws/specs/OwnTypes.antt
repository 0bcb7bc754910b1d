-- The type at the place of a declared name is known from the routine that declares it (ISO 7185, 6.2.1).
use Rattle.std.specs.Prelude.{◌≡◌, ◌⊎◌, ℕ, List, [], ◌∷◌, Option}
use Rattle.std.specs.Option.{option_and_then}
use Rattle.pc_syntax.specs.Plain.{Plain}
use Rattle.pc_syntax.specs.WellFormed.{IsProper}
use Rattle.pc_types.specs.Expanded.{Ty}
use Rattle.pc_scope.specs.Declarations.{Declared}
use Rattle.pc_decl.specs.Annotated.{Annotation, annotated}
use Rattle.pc_decl.specs.Declared.{names_of, shape_of_name}
use Rattle.pc_decl.specs.TypeAt.{structure_of, type_in}

-- an element is one of a list's
abbrev pub IsAmong : {X : Type 0} → List X → X → Type 0
IsAmong [] x = ⊥
IsAmong (y ∷ ys) x = (y ≡ x) ⊎ IsAmong ys x

-- the structure of the type that a name of a routine has where the routine's block ends
abbrev pub own_type : Annotation → List ℕ → Option Ty
own_type r n = option_and_then structure_of (shape_of_name r n)

-- at the place of each name that a routine declares there is that type
abbrev pub OwnTypeLaw : Type 0
OwnTypeLaw = (t : Plain) (r : Annotation) (d : Declared) → IsProper t → IsAmong (annotated t).routines r → IsAmong (names_of t r.routine) d →
    type_in (annotated t) d.place ≡ own_type r d.name
