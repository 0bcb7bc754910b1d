-- Each expression of a program stands in the statement part of one of its routines.
use Rattle.std.specs.Prelude.{ℕ, ◌≡◌, true, List, Some}
use Rattle.pc_syntax.specs.Places.{at}
use Rattle.pc_syntax.specs.Plain.{Plain}
use Rattle.pc_syntax.specs.WellFormed.{IsProper}
use Rattle.pc_decl.specs.Annotated.{annotated, annotation_of}
use Rattle.pc_decl.specs.Found.{routine_around}
use Rattle.pc_decl.specs.Nodes.{is_expression}
use Rattle.pc_needs.specs.Unaffected.{IsOneOf}
use Rattle.pc_rules.specs.Errors.{is_program}
use Rattle.pc_rules.specs.Meanings.{Local}
use Rattle.pc_rules.specs.RoutineList.{routines_of}
use Rattle.pc_rules.specs.Routines.{Routine}
use Rattle.pc_found_laws.specs.Ways.{StandsIn}

-- a node stands in the statement part of a routine of the program, which is the one around its path
pub record HasHome (t : Plain) (path : List ℕ) (x : Plain) : Type 0 where
  pub routine : Routine
  pub one : IsOneOf (routines_of t) routine
  pub around : routine_around (annotated t) path ≡ Some (annotation_of (routines_of t) routine)
  pub place : Local
  pub stands : StandsIn t routine path x place

-- each expression does
abbrev pub StandingLaw : Type 0
StandingLaw = (t : Plain) (path : List ℕ) (x : Plain) → IsProper t → is_program t.kind ≡ true → at path t ≡ Some x → is_expression x.kind ≡ true → HasHome t path x
