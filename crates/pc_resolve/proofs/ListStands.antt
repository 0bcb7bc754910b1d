-- The state at the list of the routines of a block, and at its first tree: lemmas.
use Rattle.std.proofs.Common.{◌≡◌, ℕ, List, Option}
use Rattle.pc_scope.specs.Headings.{has_later}
use Rattle.pc_rules.specs.Declarations.{heading_here, rest_of}
use Rattle.pc_rules.specs.Meanings.{Local}
use Rattle.pc_rules.specs.RoutineList.{Forwarded}
use Rattle.pc_rules.specs.Routines.{Routine}
use Rattle.pc_pointers.specs.Good.{Targets}
use Rattle.pc_routines.specs.Heads.{ShowsHead}
use Rattle.pc_routines.specs.declared.forward.Forward.{Forward}
use Rattle.pc_routines.specs.declared.head.RoutineHead.{RoutineHead}
use Rattle.pc_routine_sites.specs.Sites.{StandsBefore}
use Rattle.pc_resolve.specs.Lists.{StandsAmong}
use Rattle.pc_resolve.specs.declared.resolver.Resolver.{Resolver}

-- what `routine_site` asks of the tables where a routine stands in the list
pub stands-before : (all : List Routine) (targets : Targets) (r : Routine) (done : List Routine) (l : Local) (fs : List Forwarded) (block owner : ℕ) (w : List ((ℕ × ℕ) × Option Forward)) (s : Resolver) (x : RoutineHead) →
    StandsAmong all targets r done l fs block owner w s → ShowsHead s.tables.names.texts x (heading_here l) → x.has_later ≡ has_later (heading_here l) (rest_of l.ahead) →
    StandsBefore all r done l fs block owner x s.tables w
stands-before all targets r done l fs block owner w s x h shows later = record { place = h.stands.place; waits = h.waits; head = shows; later = later; sound = h.stands.sound }
