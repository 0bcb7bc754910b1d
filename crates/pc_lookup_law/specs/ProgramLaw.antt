-- The two look-ups agree in a whole program.
use Rattle.std.specs.Prelude.{◌≡◌, ℕ, true, List, ◌∷◌, ◌++◌, Some, None, slice_get}
use Rattle.pc_lookup_law.specs.ClassAt.{HasClass}
use Rattle.pc_rule_laws.specs.Agreement.{Agrees, Spot, spot}
use Rattle.pc_rule_laws.specs.Reached.{IsUse}
use Rattle.pc_rules.specs.Meanings.{entry_of, find}
use Rattle.pc_rules.specs.Outsides.{outside_of}
use Rattle.pc_rules.specs.RoutineList.{routines_of}
use Rattle.pc_rules.specs.Routines.{Routine, bare, heading_start, start_of}
use Rattle.pc_scope.specs.Lookup.{lookup}
use Rattle.pc_syntax.specs.Classes.{is_program}
use Rattle.pc_syntax.specs.Plain.{Plain}
use Rattle.pc_syntax.specs.WellFormed.{IsWellFormed}
use Rattle.pc_syntax.specs.Words.{lowered}

-- at each used name of a routine's own block, any name `b ∷ bs` but that of a field of a with's record means by environment what it means by places
abbrev pub AgreesInBlock : Plain → Routine → Type 0
AgreesInBlock t r =
    (b : ℕ) (bs : List ℕ) (j : ℕ) (way : List ℕ) (s : Spot) → spot (outside_of (routines_of t) r) (start_of r) 1 r.block (j ∷ way) ≡ Some s → IsUse s →
    entry_of s.local.fields (lowered (b ∷ bs)) ≡ None →
    Agrees (HasClass t) (find (outside_of (routines_of t) r) s.local (lowered (b ∷ bs))) (lookup t (b ∷ bs) (r.place ++ r.block_kid ∷ j ∷ way))

-- the same at each used name of its heading
abbrev pub AgreesInHeading : Plain → Routine → Type 0
AgreesInHeading t r =
    (b : ℕ) (bs : List ℕ) (j : ℕ) (way : List ℕ) (s : Spot) → spot (bare r.means) (heading_start r.owner) 1 r.heading (j ∷ way) ≡ Some s → IsUse s →
    Agrees (HasClass t) (find (bare r.means) s.local (lowered (b ∷ bs))) (lookup t (b ∷ bs) (r.place ++ j ∷ way))

-- of each routine of a program, and of the program itself
abbrev pub ProgramLaw : Type 0
ProgramLaw = (t : Plain) → IsWellFormed t → is_program t.kind ≡ true → (i : ℕ) (r : Routine) → slice_get (routines_of t) i ≡ Some r → AgreesInBlock t r × AgreesInHeading t r
