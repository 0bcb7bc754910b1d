-- The routines inside a routine, and what they touch of its block (ISO 7185, 6.2.2, 6.8.3.9).
use Rattle.std.specs.Prelude.{ℕ, ◌≡◌, true, List, [], ◌∷◌, Some, ◌++◌}
use Rattle.pc_syntax.specs.Places.{at}
use Rattle.pc_syntax.specs.Plain.{Plain}
use Rattle.pc_syntax.specs.WellFormed.{IsProper}
use Rattle.pc_types.specs.Shapes.{Owner}
use Rattle.pc_rules.specs.Attributes.{nodes}
use Rattle.pc_rules.specs.Decorated.{decorate}
use Rattle.pc_rules.specs.Errors.{is_program}
use Rattle.pc_rules.specs.ForStatements.{stands_among}
use Rattle.pc_rules.specs.HandedOn.{all_touches}
use Rattle.pc_rules.specs.Outsides.{quiet, touched_by_others}
use Rattle.pc_rules.specs.RoutineList.{routines_below, routines_of}
use Rattle.pc_rules.specs.Routines.{Routine, start_of}
use Rattle.pc_needs.specs.Answers.{has_block}
use Rattle.pc_needs.specs.Inside.{inside}
use Rattle.pc_needs.specs.Unaffected.{IsOneOf}

-- the variables that the blocks of some routines touch, in text order
abbrev pub touches_of : List Routine → List Routine → List (Owner × List ℕ)
touches_of all [] = []
touches_of all (q ∷ qs) = all_touches (nodes (decorate (quiet all q) (start_of q) q.block)) ++ touches_of all qs

-- the routines inside a routine are those below its node
abbrev pub BelowLaw : Type 0
BelowLaw = (t x : Plain) (r : Routine) → IsOneOf (routines_of t) r → at r.place t ≡ Some x → inside r (routines_of t) ≡ routines_below r 1 x.kids

-- Whether another routine touches a variable of a routine's block is whether it stands among what the routines inside touch. A forward
-- heading has no block, and no variables.
abbrev pub TouchedLaw : Type 0
TouchedLaw = (t : Plain) (r : Routine) (n : List ℕ) → IsProper t → is_program t.kind ≡ true → IsOneOf (routines_of t) r → has_block r.heading ≡ true →
    touched_by_others (routines_of t) (routines_of t) r.owner n ≡ stands_among (touches_of (routines_of t) (inside r (routines_of t))) r.owner n

-- the same by the routines below its node
abbrev pub TouchedBelowLaw : Type 0
TouchedBelowLaw = (t x : Plain) (r : Routine) (n : List ℕ) → IsProper t → is_program t.kind ≡ true → IsOneOf (routines_of t) r → has_block r.heading ≡ true → at r.place t ≡ Some x →
    touched_by_others (routines_of t) (routines_of t) r.owner n ≡ stands_among (touches_of (routines_of t) (routines_below r 1 x.kids)) r.owner n

-- what two lists of routines touch
abbrev pub JoinedLaw : Type 0
JoinedLaw = (all qs rs : List Routine) → touches_of all (qs ++ rs) ≡ touches_of all qs ++ touches_of all rs

-- the routines inside one are found below it, and only they touch its variables
pub record InsideLaw : Type 0 where
  pub below : BelowLaw
  pub touched : TouchedLaw
  pub touched_below : TouchedBelowLaw
  pub joined : JoinedLaw
