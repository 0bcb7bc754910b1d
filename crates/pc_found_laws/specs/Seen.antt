-- Nodes of a statement part see what the part sees, where no `with` is above them.
use Rattle.std.specs.Prelude.{ℕ, ◌≡◌, Bool, true, false, not, ◌&&◌, List, [], ◌∷◌}
use Rattle.std.specs.Option.{option_map_or}
use Rattle.pc_syntax.specs.Parts.{kid_at}
use Rattle.pc_syntax.specs.Plain.{Plain}
use Rattle.pc_syntax.specs.WellFormed.{IsProper, IsWellFormed}
use Rattle.pc_environment.specs.RowLaws.{SeesFrom}
use Rattle.pc_environment.specs.Sight.{Sight, sight_of, is_body}
use Rattle.pc_needs.specs.Unaffected.{IsOneOf}
use Rattle.pc_rules.specs.Errors.{is_program}
use Rattle.pc_rules.specs.Meanings.{Local}
use Rattle.pc_rules.specs.Outsides.{outside_of}
use Rattle.pc_rules.specs.Places.{opens_records}
use Rattle.pc_rules.specs.RoutineList.{routines_of}
use Rattle.pc_rules.specs.Routines.{Routine}
use Rattle.pc_found_laws.specs.Ways.{kid_place, Reaches, part_place, StandsIn}

-- whether no node that the way goes through is a `with` or a list of accesses, the last node aside
abbrev pub is_closed_way : Plain → List ℕ → Bool
is_closed_way x [] = true
is_closed_way x (i ∷ way) = not (opens_records x.kind) && option_map_or (λ (z : Plain). is_closed_way z way) (kid_at x i) true

-- a node that stands so is one of a statement part, and well formed
abbrev pub BodyLaw : Type 0
BodyLaw = (t : Plain) (r : Routine) (path : List ℕ) (x : Plain) (l : Local) → IsProper t → is_program t.kind ≡ true → IsOneOf (routines_of t) r → StandsIn t r path x l →
    (is_body x.kind ≡ true) × IsWellFormed x

-- the statement part itself sees what is seen from there, and opens no records
abbrev pub PartSeesLaw : Type 0
PartSeesLaw = (t : Plain) (r : Routine) → SeesFrom (outside_of (routines_of t) r) (part_place t r) (sight_of (outside_of (routines_of t) r) (part_place t r))

-- a kid of a node that stands so sees what that sees, where the node opens no records
abbrev pub KidSeesLaw : Type 0
KidSeesLaw = (t : Plain) (r : Routine) (path : List ℕ) (x : Plain) (l : Local) (i : ℕ) (s : Sight) → IsProper t → is_program t.kind ≡ true → IsOneOf (routines_of t) r → StandsIn t r path x l →
    opens_records x.kind ≡ false → SeesFrom (outside_of (routines_of t) r) l s → SeesFrom (outside_of (routines_of t) r) (kid_place (outside_of (routines_of t) r) l x i) s

-- a node below one that stands so sees what that sees
abbrev pub BelowSeesLaw : Type 0
BelowSeesLaw = (t : Plain) (r : Routine) (path : List ℕ) (x : Plain) (l : Local) (way : List ℕ) (y : Plain) (m : Local) (s : Sight) → IsProper t → is_program t.kind ≡ true →
    IsOneOf (routines_of t) r → StandsIn t r path x l → Reaches (outside_of (routines_of t) r) l x way y m → is_closed_way x way ≡ true →
    SeesFrom (outside_of (routines_of t) r) l s → SeesFrom (outside_of (routines_of t) r) m s

-- so each node sees what its statement part sees
abbrev pub NodeSeesLaw : Type 0
NodeSeesLaw = (t : Plain) (r : Routine) (path : List ℕ) (x : Plain) (l : Local) → IsProper t → is_program t.kind ≡ true → IsOneOf (routines_of t) r → (h : StandsIn t r path x l) →
    is_closed_way h.part h.way ≡ true → SeesFrom (outside_of (routines_of t) r) l (sight_of (outside_of (routines_of t) r) (part_place t r))

-- what the nodes of a statement part see
pub record SeenLaw : Type 0 where
  pub body : BodyLaw
  pub part : PartSeesLaw
  pub kid : KidSeesLaw
  pub below : BelowSeesLaw
  pub node : NodeSeesLaw
