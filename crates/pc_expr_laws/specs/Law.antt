-- What is told of an expression of a statement part is what the view `expr` shows of it.
use Rattle.std.specs.Prelude.{ℕ, ◌≡◌, true, false, List, [], ◌∷◌, ◌++◌, Option, Some, map}
use Rattle.std.specs.Option.{option_and_then, option_map_or}
use Rattle.pc_syntax.specs.Places.{at}
use Rattle.pc_syntax.specs.Plain.{Plain}
use Rattle.pc_syntax.specs.WellFormed.{IsProper}
use Rattle.pc_types.specs.Expanded.{Ty}
use Rattle.pc_types.specs.Shapes.{Typed}
use Rattle.pc_types.specs.Table.{Table}
use Rattle.pc_types.specs.declared.operand.Operand.{Operand}
use Rattle.pc_decl.specs.FieldTypes.{shape_of}
use Rattle.pc_decl.specs.Nodes.{is_expression}
use Rattle.pc_decl.specs.TypeAt.{structure_of}
use Rattle.pc_needs.specs.Unaffected.{IsOneOf}
use Rattle.pc_rules.specs.Errors.{is_program}
use Rattle.pc_rules.specs.Meanings.{Local, Outside}
use Rattle.pc_rules.specs.Outsides.{outside_of}
use Rattle.pc_rules.specs.RoutineList.{routines_of}
use Rattle.pc_rules.specs.Routines.{Routine}
use Rattle.pc_found_laws.specs.Ways.{part_path, part_place, StandsIn}
use Rattle.pc_told.specs.Place.{AllTypes}
use Rattle.pc_told.specs.Told.{told_on}
use Rattle.pc_expr_view.specs.PartTypes.{HaveTypes, types_at}

-- the structure of a type that is told, if it is known and has one
abbrev pub structure_told : Option Typed → Option Ty
structure_told o = option_and_then structure_of (shape_of o)

-- the types that the view shows of an expression are those that are told of it where it stands
abbrev pub ToldLaw : Type 0
ToldLaw = (t : Plain) (r : Routine) (path : List ℕ) (x : Plain) (l : Local) → IsProper t → is_program t.kind ≡ true → IsOneOf (routines_of t) r → (h : StandsIn t r path x l) →
    is_expression x.kind ≡ true → types_at t path ≡ map structure_told (told_on (outside_of (routines_of t) r) (part_place t r) h.part h.way)

-- so types by their numbers that show what is told have the structures that the view needs
abbrev pub HaveToldLaw : Type 0
HaveToldLaw = (t : Plain) (r : Routine) (path : List ℕ) (x : Plain) (l : Local) → IsProper t → is_program t.kind ≡ true → IsOneOf (routines_of t) r → (h : StandsIn t r path x l) →
    is_expression x.kind ≡ true → (table : Table) (os : List (Option Operand)) → AllTypes table os (told_on (outside_of (routines_of t) r) (part_place t r) h.part h.way) →
    HaveTypes table os (types_at t path)

-- no expression is at this path of a tree
abbrev pub HasNoExpression : Plain → List ℕ → Type 0
HasNoExpression t path = option_map_or (λ (x : Plain). is_expression x.kind) (at path t) false ≡ false

-- the view shows no type where no expression is
abbrev pub NothingShownLaw : Type 0
NothingShownLaw = (t : Plain) (path : List ℕ) → HasNoExpression t path → types_at t path ≡ []

-- and nothing is told there, if the path leads through the statement part of a routine
abbrev pub NothingToldLaw : Type 0
NothingToldLaw = (t : Plain) (r : Routine) (part : Plain) (way : List ℕ) (out : Outside) (l : Local) → at (part_path r) t ≡ Some part → HasNoExpression t (r.place ++ r.block_kid ∷ 5 ∷ way) →
    told_on out l part way ≡ []

-- of each path through the statement part of a routine, with an expression at its end or without, the view shows what is told
abbrev pub PlaceLaw : Type 0
PlaceLaw = (t : Plain) (r : Routine) (part : Plain) (way : List ℕ) → IsProper t → is_program t.kind ≡ true → IsOneOf (routines_of t) r → at (part_path r) t ≡ Some part →
    types_at t (r.place ++ r.block_kid ∷ 5 ∷ way) ≡ map structure_told (told_on (outside_of (routines_of t) r) (part_place t r) part way)

-- and types by their numbers that show it have the structures that the view needs
abbrev pub HavePlaceLaw : Type 0
HavePlaceLaw = (t : Plain) (r : Routine) (part : Plain) (way : List ℕ) → IsProper t → is_program t.kind ≡ true → IsOneOf (routines_of t) r → at (part_path r) t ≡ Some part →
    (table : Table) (os : List (Option Operand)) → AllTypes table os (told_on (outside_of (routines_of t) r) (part_place t r) part way) → HaveTypes table os (types_at t (r.place ++ r.block_kid ∷ 5 ∷ way))

-- what is told of expressions is what the view shows
pub record ExpressionLaw : Type 0 where
  pub told : ToldLaw
  pub have_told : HaveToldLaw
  pub nothing_shown : NothingShownLaw
  pub nothing_told : NothingToldLaw
  pub place : PlaceLaw
  pub have_place : HavePlaceLaw
