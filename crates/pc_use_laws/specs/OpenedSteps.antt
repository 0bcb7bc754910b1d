-- Which accesses are open at a node, from those that are open at the node above (ISO 7185, 6.8.3.10).
use Rattle.std.specs.Prelude.{◌≡◌, ℕ, ◌-◌, Bool, true, false, List, [], ◌∷◌, ◌++◌, Some}
use Rattle.pc_syntax.specs.declared.kind.Kind.{Kind}
use Rattle.pc_syntax.specs.Places.{at}
use Rattle.pc_syntax.specs.Plain.{Plain}
use Rattle.pc_syntax.specs.WellFormed.{IsProper}
use Rattle.pc_decl.specs.Annotated.{Annotation, annotated}
use Rattle.pc_decl.specs.Uses.{accesses_before, count_below_first, opened_at}
use Rattle.pc_decl_laws.specs.OwnTypes.{IsAmong}
use Rattle.pc_syntax.specs.declared.kind.Kind.TheVariants as kind

-- whether a node of this kind opens nothing for its kids: all but a `with` and its accesses
abbrev pub opens_nothing : Kind → Bool
opens_nothing kind.With = false
opens_nothing kind.Accesses = false
opens_nothing k = true

-- there the same are open at a kid
abbrev pub KidLaw : Type 0
KidLaw = (t x : Plain) (p : List ℕ) (i : ℕ) → IsProper t → at p t ≡ Some x → opens_nothing x.kind ≡ true → opened_at t (p ++ i ∷ []) ≡ opened_at t p

-- at the statement of a `with` all of its accesses are open before them, the last one first
abbrev pub StatementLaw : Type 0
StatementLaw = (t x : Plain) (p : List ℕ) → IsProper t → at p t ≡ Some x → x.kind ≡ kind.With →
    opened_at t (p ++ 2 ∷ []) ≡ accesses_before p (count_below_first x.kids) ++ opened_at t p

-- at the list of its accesses no more are open
abbrev pub AccessesLaw : Type 0
AccessesLaw = (t x : Plain) (p : List ℕ) → IsProper t → at p t ≡ Some x → x.kind ≡ kind.With → opened_at t (p ++ 1 ∷ []) ≡ opened_at t p

-- at one of them those that stand before it are
abbrev pub AccessLaw : Type 0
AccessLaw = (t x : Plain) (p : List ℕ) (j : ℕ) → IsProper t → at p t ≡ Some x → x.kind ≡ kind.With →
    opened_at t (p ++ 1 ∷ j ∷ []) ≡ accesses_before p (j - 1) ++ opened_at t p

-- nothing is open at the node of a routine
abbrev pub RoutineLaw : Type 0
RoutineLaw = (t : Plain) (r : Annotation) → IsProper t → IsAmong (annotated t).routines r → opened_at t r.routine.place ≡ []

-- nor at its parts, the heading's and its block
abbrev pub PartLaw : Type 0
PartLaw = (t : Plain) (r : Annotation) (i : ℕ) → IsProper t → IsAmong (annotated t).routines r → opened_at t (r.routine.place ++ i ∷ []) ≡ []

-- nor at the parts of the block: those of declarations, and the statement part
abbrev pub BlockLaw : Type 0
BlockLaw = (t : Plain) (r : Annotation) (i : ℕ) → IsProper t → IsAmong (annotated t).routines r → opened_at t (r.routine.place ++ r.routine.block_kid ∷ i ∷ []) ≡ []

-- nor anywhere in the heading
abbrev pub HeadingLaw : Type 0
HeadingLaw = (t : Plain) (r : Annotation) (i : ℕ) (way : List ℕ) → IsProper t → IsAmong (annotated t).routines r → (i ≡ r.routine.block_kid → ⊥) →
    opened_at t (r.routine.place ++ i ∷ way) ≡ []

-- nor anywhere in the parts of the block that declare constants, types and variables
abbrev pub DeclarationLaw : Type 0
DeclarationLaw = (t : Plain) (r : Annotation) (j : ℕ) (way : List ℕ) → IsProper t → IsAmong (annotated t).routines r → (j ≡ 4 → ⊥) → (j ≡ 5 → ⊥) →
    opened_at t (r.routine.place ++ r.routine.block_kid ∷ j ∷ way) ≡ []

-- what is open, from node to node
pub record OpenedLaw : Type 0 where
  pub kid : KidLaw
  pub statement : StatementLaw
  pub accesses : AccessesLaw
  pub access : AccessLaw
  pub routine : RoutineLaw
  pub part : PartLaw
  pub block : BlockLaw
  pub heading : HeadingLaw
  pub declaration : DeclarationLaw
