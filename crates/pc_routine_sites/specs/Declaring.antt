-- A routine is declared in the block around it, with its parameters and its result.
use Rattle.std.specs.Prelude.{◌≡◌, ◌&&◌, ℕ, Bool, true, false, not, Option, Some, None}
use Rattle.std.specs.Option.{is_some}
use Rattle.pc_syntax.specs.Plain.{Plain}
use Rattle.pc_syntax.specs.WellFormed.{IsProper}
use Rattle.pc_types.specs.declared.form.OwnerId.{OwnerId}
use Rattle.pc_scope.specs.Headings.{heading_of}
use Rattle.pc_names.specs.Bindings.{slot_in}
use Rattle.pc_names.specs.Table.{Table}
use Rattle.pc_names.specs.declared.id.NameId.{NameId}
use Rattle.pc_rules.specs.Declarations.{heading_here, is_later_declaration}
use Rattle.pc_rules.specs.Meanings.{Local, Outside}
use Rattle.pc_rules.specs.Places.{behind}
use Rattle.pc_environment.specs.Decorating.{attributes_at}
use Rattle.pc_facts.specs.declared.sighting.Declared.{Declared}
use Rattle.pc_facts.specs.declared.sighting.SignatureId.{SignatureId}
use Rattle.pc_places.specs.Places.{IsPlace, Moves, RetellsDeclaration}
use Rattle.pc_places.specs.declared.tables.Tables.{Tables}
use Rattle.pc_headings.specs.Headed.{Headed}
use Rattle.pc_headings.specs.declared.routine_heading.RoutineHeading.{RoutineHeading}
use Rattle.pc_routines.specs.Bare.{bare_routine, class_of, AddsRoutine}
use Rattle.pc_routines.specs.Heads.{ShowsHead}
use Rattle.pc_routines.specs.declared.head.RoutineHead.{RoutineHead}

-- the declaration of a routine with its signature
abbrev pub signed_routine : OwnerId → NameId → Bool → Option SignatureId → Declared
signed_routine owner name is_function s = record { class = class_of is_function; owner = owner; name = name; value = None; of = None; signature = s }

-- whether there is a name, and nothing is declared under it in the block yet
abbrev pub is_free : Table → ℕ → Option NameId → Bool
is_free t block None = false
is_free t block (Some name) = not (slot_in t.slots block name.0).passed && not (is_some (slot_in t.slots block name.0).known)

-- if it is fresh, the declaration of a routine has this signature from now on
abbrev pub TellsRoutine : ℕ → OwnerId → Option NameId → Bool → Option SignatureId → Bool → Tables → Tables → Type 0
TellsRoutine block owner name is_function s false old new = new ≡ old
TellsRoutine block owner None is_function s true old new = new ≡ old
TellsRoutine block owner (Some name) is_function s true old new = RetellsDeclaration block name.0 (signed_routine owner name is_function s) old new

-- a routine was declared by its heading, then its heading was gone through, and where its declaration is the one that the block has of its
-- name it was told again with its signature
pub record DeclaresRoutine (block : ℕ) (around own : OwnerId) (x : RoutineHead) (later : Bool) (node : Plain) (h : RoutineHeading) (old new : Tables) : Type 0 where
  pub declared : Tables
  pub headed : Tables
  pub adds : AddsRoutine block around x.name x.is_function later old declared
  pub place : (out : Outside) (l : Local) → IsProper node → heading_here l ≡ heading_of node.kind node.kids → ShowsHead old.names.texts x (heading_here l) → later ≡ is_later_declaration l →
      IsPlace old block around.0 out l → IsPlace declared block around.0 out (behind l node.kind (attributes_at out l (bare_routine node)))
  pub moves : Moves block old declared
  pub heads : Headed declared headed block own.0 later node h
  pub tells : TellsRoutine block around x.name x.is_function h.signature (not later && is_free old.names block x.name) headed new
  pub told : Moves block headed new
