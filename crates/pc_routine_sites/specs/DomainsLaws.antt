-- Behind a routine the domains of pointer types that were there lead where they led: lemmas.
use Rattle.std.proofs.Common.{◌≡◌, ℕ, Bool, List, [], length, Option, Some, None, ap, sym, ◌∙◌, append-nil}
use Rattle.pc_syntax.specs.Plain.{Plain}
use Rattle.pc_types.specs.Rows.{seen}
use Rattle.pc_types.specs.Shapes.{Owner}
use Rattle.pc_types.specs.Table as types
use Rattle.pc_types.specs.declared.form.OwnerId.{OwnerId}
use Rattle.pc_rules.specs.RoutineList.{owner_of}
use Rattle.pc_growth.specs.Grows.{Begins}
use Rattle.pc_growth.specs.GrowsLaws.{Begins-then}
use Rattle.pc_headings.specs.declared.routine_heading.RoutineHeading.{RoutineHeading}
use Rattle.pc_places.specs.Places.{known}
use Rattle.pc_places.specs.declared.tables.Tables.{Tables}
use Rattle.pc_routines.specs.Heads.{found_at}
use Rattle.pc_routines.specs.Waits.{waiting_at}
use Rattle.pc_routines.specs.declared.forward.Forward.{Forward}
use Rattle.pc_routines.specs.declared.head.RoutineHead.{RoutineHead}
use Rattle.pc_routine_sites.specs.Declaring.{DeclaresRoutine}
use Rattle.pc_routine_sites.specs.Identities.{taken_owner, IsOwner}
use Rattle.pc_routine_sites.specs.Steps.{VisitsRoutine}
use Rattle.pc_routine_sites.specs.declared.site.RoutineFound.{RoutineFound}

-- a routine got its number as an owner
owned-equal : (taken : Option OwnerId) (o : Owner) (old new : types.Table) (i : OwnerId) → IsOwner taken o old new i → new.domains ≡ old.domains
owned-equal (Some d) o old new i h = ap (λ (t : types.Table). t.domains) h.1
owned-equal None o old new i h = h.1.domains

owned-domains : (taken : Option OwnerId) (o : Owner) (old new : types.Table) (i : OwnerId) → IsOwner taken o old new i → Begins old.domains new.domains
owned-domains taken o old new i h = record { more = []; is = owned-equal taken o old new i h ∙ sym (append-nil old.domains) }

-- it was declared in the block around it, and its heading was gone through
declared-domains : (block : ℕ) (around own : OwnerId) (x : RoutineHead) (later : Bool) (node : Plain) (h : RoutineHeading) (old new : Tables) → DeclaresRoutine block around own x later node h old new →
    Begins (known old).table.domains (known new).table.domains
declared-domains block around own x later node h old new d =
    let before = (known old).table.domains in
    let declared = (known d.declared).table.domains in
    let headed = (known d.headed).table.domains in
    let after = (known new).table.domains in
    Begins-then before headed after (Begins-then before declared headed d.moves.domains d.heads.keeps.domains) d.told.domains

-- both
pub routine-domains : (block : ℕ) (around : OwnerId) (given : Option (List (List ℕ))) (at : List ℕ) (x : RoutineHead) (node : Plain) (old new : Tables) (w v : List ((ℕ × ℕ) × Option Forward)) (f : RoutineFound) →
    VisitsRoutine block around given at x node old new w v f → Begins (known old).table.domains (known new).table.domains
routine-domains block around given at x node old new w v f h =
    let taken = taken_owner h.facts.later (length (known old).table.owners) (found_at (waiting_at w) x.name x.is_function) in
    Begins-then (known old).table.domains (known h.owned).table.domains (known new).table.domains
    (owned-domains taken (owner_of f.site.key at) (seen old.types) (seen h.owned.types) f.site.owner h.owner)
    (declared-domains block around f.site.owner x h.facts.later node h.head h.owned new h.declares)
