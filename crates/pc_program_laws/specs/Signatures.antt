-- Parameters and result of a routine by its name (ISO 7185, 6.2.2.7, 6.6.1).
use Rattle.std.specs.Prelude.{◌≡◌, true}
use Rattle.pc_syntax.specs.Plain.{Plain}
use Rattle.pc_syntax.specs.WellFormed.{IsProper}
use Rattle.pc_rules.specs.Errors.{is_program}
use Rattle.pc_rules.specs.Headings.{signature_in}
use Rattle.pc_rules.specs.Outsides.{signature_named}
use Rattle.pc_rules.specs.RoutineList.{routines_of}
use Rattle.pc_rules.specs.Routines.{Routine}
use Rattle.pc_needs.specs.Unaffected.{IsOneOf}

-- the first routine of its name in a block gives that name its parameters and result
abbrev pub SignaturesLaw : Type 0
SignaturesLaw = (t : Plain) (q : Routine) → IsProper t → is_program t.kind ≡ true → IsOneOf (routines_of t) q → q.is_first ≡ true →
    signature_named (routines_of t) q.parent q.name ≡ signature_in q
