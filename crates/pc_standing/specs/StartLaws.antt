-- Where the block of a routine of a program begins there are no routines yet: lemmas.
use Rattle.std.proofs.Common.{◌≡◌, ℕ, true, List, [], ◌∷◌, refl, sym, ◌∙◌, true≢false}
use Rattle.pc_syntax.specs.Plain.{Plain}
use Rattle.pc_syntax.specs.WellFormed.{IsProper}
use Rattle.pc_types.specs.Shapes.{Owner}
use Rattle.pc_rules.specs.Errors.{is_program}
use Rattle.pc_rules.specs.Meanings.{Meaning}
use Rattle.pc_rules.specs.RoutineList.{routines_of}
use Rattle.pc_rules.specs.Routines.{Routine, start_of}
use Rattle.pc_needs.specs.Unaffected.{IsOneOf}
use Rattle.pc_needs.proofs.Lists.{each-one}
use Rattle.pc_needs.proofs.ParameterLemmas.{AreOfHeading}
use Rattle.pc_needs.proofs.TouchedLemmas.{NoOwner, IsScoped, routines-scoped}
use Rattle.pc_standing.specs.OwnsLaws.{none-after, owns-after}
use Rattle.pc_standing.specs.Signed.{OwnsRoutines, NoRoutines}
use Rattle.pc_standing.specs.Standing.{Owns, OwnLaw}

none-of-heading : (ds : List (List ℕ × Meaning)) → AreOfHeading ds → NoRoutines ds
none-of-heading [] h = tt
none-of-heading (d ∷ ds) h = (h.0.1, none-of-heading ds h.1)

-- where there is none, all are a block's own
pub none-own : (o : Owner) (ds : List (List ℕ × Meaning)) → NoRoutines ds → OwnsRoutines o ds
none-own o [] h = tt
none-own o (d ∷ ds) h = ((λ e. absurd (true≢false (sym e ∙ h.0))), none-own o ds h.1)

-- the parameters of a routine are no routines
pub none-start : (t : Plain) (r : Routine) → IsProper t → is_program t.kind ≡ true → IsOneOf (routines_of t) r → NoRoutines (start_of r).known
none-start t r proper program one =
    none-of-heading (start_of r).known (each-one (IsScoped NoOwner (routines_of t)) (routines_of t) r one (routines-scoped t proper program)).parameters

pub owns-start : (t : Plain) (r : Routine) → IsProper t → is_program t.kind ≡ true → IsOneOf (routines_of t) r → Owns r.owner (start_of r)
owns-start t r proper program one = (refl, none-own r.owner (start_of r).known (none-start t r proper program one))

pub own-law : OwnLaw
own-law = record { none_start = none-start; none_after = none-after; start = owns-start; after = owns-after }
