-- The types that a block knows behind its type definitions are its own (ISO 7185, 6.2.2, 6.4.1).
use Rattle.std.specs.Prelude.{◌≡◌, ℕ, true, false, List, [], ◌∷◌}
use Rattle.std.specs.Option.{is_some}
use Rattle.pc_syntax.specs.declared.kind.Kind.TheVariants as kind
use Rattle.pc_syntax.specs.Plain.{Plain, forest_of}
use Rattle.pc_syntax.specs.WellFormed.{IsWellFormed, IsProper}
use Rattle.pc_syntax.specs.Words.{is_among}
use Rattle.pc_rules.specs.Errors.{is_program}
use Rattle.pc_rules.specs.Meanings.{Meaning, Local, Outside, entry_of}
use Rattle.pc_rules.specs.NameClasses.{is_type_class}
use Rattle.pc_rules.specs.RoutineList.{routines_of}
use Rattle.pc_rules.specs.Routines.{Routine, parameters_of, start_of}
use Rattle.pc_needs.specs.Unaffected.{IsOneOf}
use Rattle.pc_carrying.specs.Parts.{types_of, AreParts}
use Rattle.pc_block_laws.specs.Block.{type_names, OwnTypes}

-- none of these declarations is a type
abbrev pub NoTypes : List (List ℕ × Meaning) → Type 0
NoTypes [] = Unit {0}
NoTypes (d ∷ ds) = (is_type_class d.1.class ≡ false) × NoTypes ds

-- these five are the parts of a routine's own block
abbrev pub IsOwnBlock : Routine → Plain → Plain → Plain → Plain → Plain → Type 0
IsOwnBlock r constants types variables routines body = r.block ≡ forest_of (constants ∷ types ∷ variables ∷ routines ∷ body ∷ [])

-- from a place at which no type is known, and whose block declares the names of the type definitions
abbrev pub OwnTypesLaw : Type 0
OwnTypesLaw = (out : Outside) (l : Local) (constants types : Plain) → IsWellFormed constants → IsWellFormed types → constants.kind ≡ kind.Consts → types.kind ≡ kind.Types → NoTypes l.known →
    ((n : List ℕ) → is_among (type_names types.kids) n ≡ true → is_some (entry_of l.names n) ≡ true) → OwnTypes types (types_of out l constants types)

-- parameters are no types
abbrev pub ParametersLaw : Type 0
ParametersLaw = (t : Plain) (r : Routine) → IsProper t → is_program t.kind ≡ true → IsOneOf (routines_of t) r → NoTypes (parameters_of r)

-- so it is in the block of a routine
abbrev pub RoutineTypesLaw : Type 0
RoutineTypesLaw = (t : Plain) (r : Routine) (out : Outside) (constants types variables routines body : Plain) → IsProper t → is_program t.kind ≡ true → IsOneOf (routines_of t) r →
    IsOwnBlock r constants types variables routines body → OwnTypes types (types_of out (start_of r) constants types)

-- the parts of its own block are of their kinds, with what may stand in them
abbrev pub PartsLaw : Type 0
PartsLaw = (t : Plain) (r : Routine) (constants types variables routines body : Plain) → IsProper t → IsOneOf (routines_of t) r → IsOwnBlock r constants types variables routines body →
    AreParts constants types variables routines

-- the types of a block are its own
pub record OwnLaw : Type 0 where
  pub place : OwnTypesLaw
  pub parameters : ParametersLaw
  pub parts : PartsLaw
  pub routine : RoutineTypesLaw
