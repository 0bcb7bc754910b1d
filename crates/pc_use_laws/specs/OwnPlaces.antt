-- What is found at a place of a routine's own block belongs to that routine.
use Rattle.std.specs.Prelude.{◌≡◌, ℕ, List, ◌∷◌, ◌++◌, Some}
use Rattle.pc_syntax.specs.Plain.{Plain}
use Rattle.pc_syntax.specs.WellFormed.{IsProper}
use Rattle.pc_decl.specs.Annotated.{Annotation, annotated}
use Rattle.pc_decl.specs.Found.{found_on, routine_around, attributes_at}
use Rattle.pc_decl_laws.specs.OwnTypes.{IsAmong}

-- at and below each part of a routine's block but its fourth, which has the routines, that routine is the innermost one
abbrev pub AroundLaw : Type 0
AroundLaw = (t : Plain) (r : Annotation) (j : ℕ) (way : List ℕ) → IsProper t → IsAmong (annotated t).routines r → (j ≡ 4 → ⊥) →
    routine_around (annotated t) (r.routine.place ++ r.routine.block_kid ∷ j ∷ way) ≡ Some r

-- so what is found there is what is found this way in its block
abbrev pub FoundLaw : Type 0
FoundLaw = (t : Plain) (r : Annotation) (j : ℕ) (way : List ℕ) → IsProper t → IsAmong (annotated t).routines r → (j ≡ 4 → ⊥) →
    attributes_at (annotated t) (r.routine.place ++ r.routine.block_kid ∷ j ∷ way) ≡ found_on (j ∷ way) r.block

-- what is found in a routine's own block
pub record OwnPlaceLaw : Type 0 where
  pub around : AroundLaw
  pub found : FoundLaw
