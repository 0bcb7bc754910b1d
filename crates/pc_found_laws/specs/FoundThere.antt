-- What the view finds at a node of a statement part is what the rules find there.
use Rattle.std.specs.Prelude.{ℕ, ◌≡◌, true, List, ◌∷◌, ◌++◌, Some}
use Rattle.pc_syntax.specs.Plain.{Plain}
use Rattle.pc_syntax.specs.WellFormed.{IsProper}
use Rattle.pc_decl.specs.Annotated.{annotated, annotation_of}
use Rattle.pc_decl.specs.Found as view
use Rattle.pc_environment.specs.Decorating as rules
use Rattle.pc_needs.specs.Unaffected.{IsOneOf}
use Rattle.pc_rules.specs.Errors.{is_program}
use Rattle.pc_rules.specs.Meanings.{Local}
use Rattle.pc_rules.specs.Outsides.{outside_of}
use Rattle.pc_rules.specs.RoutineList.{routines_of}
use Rattle.pc_rules.specs.Routines.{Routine}
use Rattle.pc_found_laws.specs.Ways.{StandsIn}

-- the routine around its path is the one whose statement part it stands in
abbrev pub AroundLaw : Type 0
AroundLaw = (t : Plain) (r : Routine) (path : List ℕ) (x : Plain) (l : Local) → IsProper t → is_program t.kind ≡ true → IsOneOf (routines_of t) r → StandsIn t r path x l →
    view.routine_around (annotated t) path ≡ Some (annotation_of (routines_of t) r)

-- at its path there are the attributes that the rules give it
abbrev pub HereLaw : Type 0
HereLaw = (t : Plain) (r : Routine) (path : List ℕ) (x : Plain) (l : Local) → IsProper t → is_program t.kind ≡ true → IsOneOf (routines_of t) r → StandsIn t r path x l →
    view.attributes_at (annotated t) path ≡ Some (rules.attributes_at (outside_of (routines_of t) r) l x)

-- further down there is what the rules find below it, and nothing where there is no node
abbrev pub BelowLaw : Type 0
BelowLaw = (t : Plain) (r : Routine) (path : List ℕ) (x : Plain) (l : Local) (i : ℕ) (way : List ℕ) → IsProper t → is_program t.kind ≡ true → IsOneOf (routines_of t) r →
    StandsIn t r path x l → view.attributes_at (annotated t) (path ++ i ∷ way) ≡ view.found_on (i ∷ way) (rules.below_at (outside_of (routines_of t) r) l x)

-- what is found at the nodes of a statement part
pub record FoundLaw : Type 0 where
  pub around : AroundLaw
  pub here : HereLaw
  pub below : BelowLaw
