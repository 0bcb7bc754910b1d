-- Which fields the rules see at a node of a statement part: those that the open accesses open (ISO 7185, 6.8.3.10).
use Rattle.std.specs.Prelude.{◌≡◌, ℕ, Bool, true, false, List, [], ◌∷◌, ◌++◌, Some}
use Rattle.std.specs.Option.{is_some}
use Rattle.std.specs.List.{flat_map}
use Rattle.pc_syntax.specs.Plain.{Plain}
use Rattle.pc_syntax.specs.WellFormed.{IsProper}
use Rattle.pc_syntax.specs.Words.{lowered}
use Rattle.pc_types.specs.Shapes.{Typed}
use Rattle.pc_rules.specs.Errors.{is_program}
use Rattle.pc_rules.specs.Meanings.{Found, Component, entry_of, find}
use Rattle.pc_rules.specs.Outsides.{outside_of}
use Rattle.pc_rules.specs.RoutineList.{routines_of}
use Rattle.pc_rules.specs.Routines.{start_of}
use Rattle.pc_rules.specs.Variables.{opened_by}
use Rattle.pc_rule_laws.specs.Agreement.{Spot, spot}
use Rattle.pc_rule_laws.specs.Reached.{IsUse}
use Rattle.pc_decl.specs.Annotated.{Annotation, Annotated, annotated}
use Rattle.pc_decl.specs.Meant.{open_field}
use Rattle.pc_decl.specs.Records.{field_of}
use Rattle.pc_decl.specs.Roles.{expression_type}
use Rattle.pc_decl.specs.Uses.{opened_at}
use Rattle.pc_decl_laws.specs.OwnTypes.{IsAmong}

-- the fields that the access at a place opens by its type
abbrev pub opens_at : Annotated → List ℕ → List (List ℕ × (Typed × Bool))
opens_at p q = opened_by (expression_type p q)

-- this way leads from the statement part of a routine to a node of it
abbrev pub LeadsTo : Plain → Annotation → List ℕ → Spot → Type 0
LeadsTo t r way s = spot (outside_of (routines_of t) r.routine) (start_of r.routine) 1 r.routine.block (5 ∷ way) ≡ Some s

-- there the rules see the fields of the open accesses, the innermost first
abbrev pub FieldsSeenLaw : Type 0
FieldsSeenLaw = (t : Plain) (r : Annotation) (way : List ℕ) (s : Spot) → IsProper t → IsAmong (annotated t).routines r → LeadsTo t r way s →
    s.local.fields ≡ flat_map (opens_at (annotated t)) (opened_at t (r.routine.place ++ r.routine.block_kid ∷ 5 ∷ way))

-- whether what is found is a field
abbrev pub is_component : Found → Bool
is_component (Component t p) = true
is_component f = false

-- so a name that is used there means a field exactly where one of these accesses opens a field of that name
abbrev pub ComponentLaw : Type 0
ComponentLaw = (t : Plain) (r : Annotation) (way : List ℕ) (s : Spot) (b : ℕ) (bs : List ℕ) → IsProper t → is_program t.kind ≡ true → IsAmong (annotated t).routines r →
    LeadsTo t r way s → IsUse s →
    is_component (find (outside_of (routines_of t) r.routine) s.local (lowered (b ∷ bs)))
    ≡ is_some (entry_of (flat_map (opens_at (annotated t)) (opened_at t (r.routine.place ++ r.routine.block_kid ∷ 5 ∷ way))) (lowered (b ∷ bs)))

-- whether the type of the access at a place has a field of a name
abbrev pub opens_name : Annotated → List ℕ → List ℕ → Bool
opens_name p n q = is_some (entry_of (opens_at p q) n)

-- the types of these accesses tell whether the first record of the program with their definition has a field of this name
abbrev pub AreTold : Annotated → List ℕ → List (List ℕ) → Type 0
AreTold p n [] = Unit {0}
AreTold p n (q ∷ qs) = (opens_name p n q ≡ is_some (field_of p n q)) × AreTold p n qs

-- where they do, a name means a field exactly where an open record has one of its name by places
abbrev pub ToldLaw : Type 0
ToldLaw = (t : Plain) (r : Annotation) (way : List ℕ) (s : Spot) (b : ℕ) (bs : List ℕ) → IsProper t → is_program t.kind ≡ true → IsAmong (annotated t).routines r →
    LeadsTo t r way s → IsUse s →
    AreTold (annotated t) (lowered (b ∷ bs)) (opened_at t (r.routine.place ++ r.routine.block_kid ∷ 5 ∷ way)) →
    is_component (find (outside_of (routines_of t) r.routine) s.local (lowered (b ∷ bs)))
    ≡ is_some (open_field (annotated t) (lowered (b ∷ bs)) (opened_at t (r.routine.place ++ r.routine.block_kid ∷ 5 ∷ way)))

-- what the rules see of the records that are open
pub record SeenFieldsLaw : Type 0 where
  pub fields : FieldsSeenLaw
  pub component : ComponentLaw
  pub told : ToldLaw
