-- What is done at a routine, step by step, and at which routine of a program.
use Rattle.std.specs.Prelude.{◌≡◌, ◌<◌, ℕ, true, if◌then◌else◌, List, [], ◌∷◌, ◌++◌, Option, length}
use Rattle.std.specs.Option.{is_some}
use Rattle.pc_syntax.specs.Plain.{Plain}
use Rattle.pc_syntax.specs.WellFormed.{IsProper}
use Rattle.pc_types.specs.Rows.{seen}
use Rattle.pc_types.specs.declared.form.OwnerId.{OwnerId}
use Rattle.pc_scope.specs.Headings.{heading_of, has_later, is_routine_kind}
use Rattle.pc_rules.specs.Declarations.{heading_here, rest_of}
use Rattle.pc_rules.specs.Meanings.{Local, Outside}
use Rattle.pc_rules.specs.Places.{past_routine}
use Rattle.pc_rules.specs.RoutineList.{Forwarded, key_of, owner_of, forwarded_by, routines_of}
use Rattle.pc_rules.specs.Routines.{Routine}
use Rattle.pc_places.specs.Places.{known, IsPlace}
use Rattle.pc_places.specs.declared.tables.Tables.{Tables}
use Rattle.pc_headings.specs.declared.routine_heading.RoutineHeading.{RoutineHeading}
use Rattle.pc_routines.specs.Bare.{IsRoutine}
use Rattle.pc_routines.specs.Heads.{ShowsHead, found_at}
use Rattle.pc_routines.specs.Waits.{waiting_at, Gives, Waits}
use Rattle.pc_routines.specs.declared.facts.RoutineFacts.{RoutineFacts}
use Rattle.pc_routines.specs.declared.forward.Forward.{Forward}
use Rattle.pc_routines.specs.declared.head.RoutineHead.{RoutineHead}
use Rattle.pc_routine_sites.specs.Declaring.{DeclaresRoutine}
use Rattle.pc_routine_sites.specs.Identities.{own_key, taken_owner, IsOwner, own_function, waiting_parameters, IsForward}
use Rattle.pc_routine_sites.specs.Sites.{IsNext, StandsBefore}
use Rattle.pc_routine_sites.specs.declared.site.RoutineFound.{RoutineFound}

-- a routine at this place, in the block of one with this number and this key: what is found at it in the block, which owner it is, its
-- declaration with its heading, its parameters, and what it gives to its later declaration
pub record VisitsRoutine (block : ℕ) (around : OwnerId) (given : Option (List (List ℕ))) (at : List ℕ) (x : RoutineHead) (node : Plain) (old new : Tables) (w v : List ((ℕ × ℕ) × Option Forward))
    (f : RoutineFound) : Type 0 where
  pub facts : RoutineFacts
  pub owned : Tables
  pub head : RoutineHeading
  pub forward : Option Forward
  pub shows : (owner : ℕ) (out : Outside) (l : Local) (fs : List Forwarded) → IsPlace old block owner out l → heading_here l ≡ heading_of node.kind node.kids → ShowsHead old.names.texts x (heading_here l) →
      x.has_later ≡ has_later (heading_here l) (rest_of l.ahead) → Waits old w l.waiting fs → IsRoutine out l node facts
  pub proper : IsProper node
  pub entries : f.entries.items ≡ facts.entries.items
  pub key : f.site.key ≡ own_key old.names.texts w given x facts.later facts.first
  pub place : f.site.place ≡ at
  pub is_later : f.site.is_later ≡ facts.later
  pub owner : IsOwner (taken_owner facts.later (length (known old).table.owners) (found_at (waiting_at w) x.name x.is_function)) (owner_of f.site.key at) (seen old.types) (seen owned.types) f.site.owner
  pub there : f.site.owner.0 < length (known owned).table.owners
  pub names : owned.names ≡ old.names
  pub declarations : owned.declarations ≡ old.declarations
  pub signatures : owned.signatures ≡ old.signatures
  pub texts : owned.texts ≡ old.texts
  pub declares : DeclaresRoutine block around f.site.owner x facts.later node head owned new
  pub heading : f.heading.items ≡ head.entries.items
  pub parameters : f.site.parameters.items ≡ (if facts.later then waiting_parameters (found_at (waiting_at w) x.name x.is_function) else head.parameters.items)
  pub gives : IsForward x.is_forward f.site.owner f.site.key f.site.parameters.items forward
  pub function : f.site.own_function ≡ own_function node.kind (is_some f.site.key) around x.name
  pub passes : (t : Tables) (l : Local) (r : Routine) (fs : List Forwarded) → ShowsHead t.names.texts x (heading_here l) → Gives t forward r (heading_here l).is_forward → Waits t w l.waiting fs →
      Waits t v (past_routine l).waiting (forwarded_by l r fs)

-- the same at a routine of a program, which stands in the block of another one
pub record Visit : Type 0 where
  pub t : Plain
  pub outer : Routine
  pub r : Routine
  pub done : List Routine
  pub beyond : List Routine
  pub l : Local
  pub fs : List Forwarded
  pub list : List ℕ
  pub node : Plain
  pub block : ℕ
  pub around : OwnerId
  pub given : Option (List (List ℕ))
  pub at : List ℕ
  pub x : RoutineHead
  pub old : Tables
  pub new : Tables
  pub w : List ((ℕ × ℕ) × Option Forward)
  pub v : List ((ℕ × ℕ) × Option Forward)
  pub f : RoutineFound
  pub next : IsNext t outer r done beyond l fs list node
  pub routine : is_routine_kind node.kind ≡ true
  pub at_is : at ≡ list ++ l.kid ∷ []
  pub given_is : given ≡ key_of outer.owner
  pub before : StandsBefore (routines_of t) outer done l fs block around.0 x old w
  pub went : VisitsRoutine block around given at x node old new w v f
