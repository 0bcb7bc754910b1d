-- The place of a field's name is that of no declared name of a routine (ISO 7185, 6.4.3.3).
use Rattle.std.specs.Prelude.{◌≡◌, ℕ, true, List, Option, Some, None}
use Rattle.pc_syntax.specs.Plain.{Plain}
use Rattle.pc_syntax.specs.WellFormed.{IsProper}
use Rattle.pc_scope.specs.Declarations.{Declared}
use Rattle.pc_decl.specs.Annotated.{Annotation, annotated}
use Rattle.pc_decl.specs.Declared.{names_of}
use Rattle.pc_decl.specs.FieldTypes.{is_field_kind}
use Rattle.pc_decl.specs.Meant.{open_field}
use Rattle.pc_decl.specs.Nodes.{above, kind_at}
use Rattle.pc_decl.specs.Records.{field_of}
use Rattle.pc_decl_laws.specs.OwnTypes.{IsAmong}

-- a place is that of a field's name: it is below the list of names of a field
abbrev pub IsFieldPlace : Plain → List ℕ → Type 0
IsFieldPlace t q = is_field_kind (kind_at t (above (above q))) ≡ true

-- what is found, if anything, is such a place
abbrev pub FindsField : Plain → Option (List ℕ) → Type 0
FindsField t None = Unit {0}
FindsField t (Some q) = IsFieldPlace t q

-- the field of the record before a name has such a place
abbrev pub FieldOfLaw : Type 0
FieldOfLaw = (t : Plain) (n q : List ℕ) → IsProper t → FindsField t (field_of (annotated t) n q)

-- so has the field of a name in the records of some accesses
abbrev pub OpenFieldLaw : Type 0
OpenFieldLaw = (t : Plain) (n : List ℕ) (qs : List (List ℕ)) → IsProper t → FindsField t (open_field (annotated t) n qs)

-- the names that a routine declares have none
abbrev pub DeclaredPlaceLaw : Type 0
DeclaredPlaceLaw = (t : Plain) (r : Annotation) (d : Declared) → IsProper t → IsAmong (annotated t).routines r → IsAmong (names_of t r.routine) d → IsFieldPlace t d.place → ⊥

-- fields are no declared names
pub record FieldsLaw : Type 0 where
  pub field : FieldOfLaw
  pub open_fields : OpenFieldLaw
  pub declared : DeclaredPlaceLaw
