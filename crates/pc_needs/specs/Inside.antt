-- The routines inside a routine, and which routines may touch a variable of its block (ISO 7185, 6.2.2, 6.8.3.9).
use Rattle.std.specs.Prelude.{ℕ, ◌≡◌, Bool, true, false, ◌&&◌, ◌==◌, if◌then◌else◌, List, [], ◌∷◌}
use Rattle.pc_syntax.specs.Plain.{Plain}
use Rattle.pc_syntax.specs.WellFormed.{IsProper}
use Rattle.pc_rules.specs.Errors.{is_program}
use Rattle.pc_rules.specs.Outsides.{touched_by_others}
use Rattle.pc_rules.specs.RoutineList.{routines_of}
use Rattle.pc_rules.specs.Routines.{Routine}
use Rattle.pc_needs.specs.Answers.{has_block}
use Rattle.pc_needs.specs.Unaffected.{IsOneOf}

-- whether a place is below another
abbrev pub is_below : List ℕ → List ℕ → Bool
is_below [] [] = false
is_below [] (j ∷ js) = true
is_below (i ∷ is) [] = false
is_below (i ∷ is) (j ∷ js) = i == j && is_below is js

-- the routines inside one, in text order
abbrev pub inside : Routine → List Routine → List Routine
inside r [] = []
inside r (x ∷ xs) = if is_below r.place x.place then x ∷ inside r xs else inside r xs

-- whether another routine touches a variable of a routine's block is decided by the routines inside it
abbrev pub TouchesLaw : Type 0
TouchesLaw = (t : Plain) (r : Routine) (n : List ℕ) → IsProper t → is_program t.kind ≡ true → IsOneOf (routines_of t) r → has_block r.heading ≡ true →
    touched_by_others (routines_of t) (routines_of t) r.owner n ≡ touched_by_others (routines_of t) (inside r (routines_of t)) r.owner n
