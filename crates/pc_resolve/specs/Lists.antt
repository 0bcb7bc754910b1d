-- What is found at the routines of a block, one after the other (ISO 7185, 6.2.1, 6.6.1, 6.6.2).
use Rattle.std.specs.Prelude.{◌≡◌, ℕ, List, [], ◌∷◌, ◌++◌, Option, if◌then◌else◌, ◌+◌, slice_get}
use Rattle.pc_syntax.specs.Places.{at}
use Rattle.pc_syntax.specs.Plain.{Forest, Plain, trees_of, Cons}
use Rattle.pc_scope.specs.Headings.{has_later, headings_in, is_routine_kind}
use Rattle.pc_rules.specs.Declarations.{heading_here, rest_of}
use Rattle.pc_places.specs.declared.tables.Tables.{Tables}
use Rattle.pc_routines.specs.Heads.{ShowsHead}
use Rattle.pc_routines.specs.declared.head.RoutineHead.{RoutineHead}
use Rattle.pc_names.specs.Chains.{chain_of}
use Rattle.pc_rules.specs.Attributes.{nodes}
use Rattle.pc_rules.specs.Decorated.{decorate}
use Rattle.pc_rules.specs.Errors.{entries_of}
use Rattle.pc_rules.specs.HandedOn.{kid_entries}
use Rattle.pc_rules.specs.Meanings.{Local, Found}
use Rattle.pc_rules.specs.Outsides.{outside_of}
use Rattle.pc_rules.specs.OwnBlock.{own, bare_heading}
use Rattle.pc_rules.specs.RoutineList.{Forwarded, key_of, routines_in, routines_below, routines_of, forwarded_by}
use Rattle.pc_rules.specs.Routines.{Routine, bare}
use Rattle.pc_environment.specs.Decorating.{attributes_at, place_after}
use Rattle.pc_needs.specs.Unaffected.{IsOneOf}
use Rattle.pc_pointers.specs.Good.{Targets}
use Rattle.pc_places.specs.Places.{known, IsPlace}
use Rattle.pc_routines.specs.Waits.{Waits}
use Rattle.pc_routines.specs.declared.forward.Forward.{Forward}
use Rattle.pc_standing.specs.Signed.{OwnsRoutines}
use Rattle.pc_domains.specs.Told.{IsTold}
use Rattle.pc_routine_sites.specs.Sites.{Sound}
use Rattle.pc_routine_sites.specs.Visits.{Visits}
use Rattle.pc_routine_sites.specs.declared.site.RoutineSite.{RoutineSite}
use Rattle.pc_resolve.specs.Facts.{ProgramFacts}
use Rattle.pc_resolve.specs.declared.resolver.Resolver.{Resolver}
use Rattle.pc_resolve.specs.declared.resolver.BlockEntries.{BlockEntries}
use Rattle.pc_resolve.specs.Blocks.{Notes}
use Rattle.pc_program_laws.specs.Routines.{routine_here, behind_first}

-- a tree as it stands in the own block around it
abbrev pub own_tree : Plain → Plain
own_tree t = record { kind = t.kind; word = t.word; notes = t.notes; kids = if is_routine_kind t.kind then bare_heading t.kids else own t.kids }

-- the routine that a tree in a list of them is, with those inside it; none where it is a hole
abbrev pub routines_here : (List ℕ → Found) → Local → List Forwarded → List ℕ → Option (List (List ℕ)) → Plain → List Routine
routines_here m l fs p key t =
    if is_routine_kind t.kind then (let r = routine_here m l fs p key t.kind t.word t.notes t.kids in r ∷ routines_below r 1 t.kids) else []

-- the forward routines that count behind it
abbrev pub forwarded_here : (List ℕ → Found) → Local → List Forwarded → List ℕ → Option (List (List ℕ)) → Plain → List Forwarded
forwarded_here m l fs p key t = if is_routine_kind t.kind then forwarded_by l (routine_here m l fs p key t.kind t.word t.notes t.kids) fs else fs

-- where the tree behind it stands
abbrev pub behind_here : (List ℕ → Found) → Local → Plain → Local
behind_here m l t = behind_first m l t.kind t.word t.notes t.kids

-- trees in a row, the first of which is this
abbrev pub led_by : Plain → Forest → Forest
led_by t ts = Cons t.kind t.word t.notes t.kids ts

-- some trees in the list of routines of a routine's block are still to be gone through: these routines were gone through before, and these
-- are beyond; the first of the trees stands here, behind these forward routines
pub record IsListOf (t : Plain) (targets : Targets) (r : Routine) (done beyond : List Routine) (l : Local) (fs : List Forwarded) (list : List ℕ) (ts : Forest) : Type 0 where
  pub facts : ProgramFacts t targets
  pub among : IsOneOf (routines_of t) r
  pub gone : IsOneOf done r
  pub owner : l.owner ≡ r.owner
  pub ahead : l.ahead ≡ headings_in ts
  pub kids : (i : ℕ) → at (list ++ (l.kid + i) ∷ []) t ≡ slice_get (trees_of ts) i
  pub order : routines_of t ≡ done ++ routines_in r.means l fs list (key_of r.owner) ts ++ beyond

-- the site is that of the routine whose block it is
pub record IsSite (r : Routine) (site : RoutineSite) : Type 0 where
  pub key : site.key ≡ key_of r.owner
  pub place : site.place ≡ r.place

-- the state says what is so at a place of a routine's block, forward routines aside
pub record StandsIn (all : List Routine) (targets : Targets) (r : Routine) (done : List Routine) (l : Local) (block owner : ℕ) (s : Resolver) : Type 0 where
  pub place : IsPlace s.tables block owner (bare r.means) l
  pub owns : OwnsRoutines r.owner l.known
  pub sound : Sound all done s.tables (chain_of s.tables.names.chains block)
  pub told : IsTold targets s.domains (known s.tables)

-- the same where a tree in the list of its routines stands, with the forward routines that wait there
pub record StandsAmong (all : List Routine) (targets : Targets) (r : Routine) (done : List Routine) (l : Local) (fs : List Forwarded) (block owner : ℕ) (w : List ((ℕ × ℕ) × Option Forward)) (s : Resolver) : Type 0 where
  pub stands : StandsIn all targets r done l block owner s
  pub waits : Waits s.tables w l.waiting fs

-- what came between: the routines of a list were gone through
pub record ListShown (all : List Routine) (targets : Targets) (r : Routine) (inside done : List Routine) (l : Local) (fs : List Forwarded) (block owner : ℕ) (old : Resolver) (w : List ((ℕ × ℕ) × Option Forward)) (new : Resolver) : Type 0 where
  pub stands : StandsAmong all targets r (done ++ inside) l fs block owner w new
  pub visits : Visits block old.tables new.tables
  pub notes : Notes all inside old new

-- there is such a list in a program
abbrev pub IsSomeList : ℕ → RoutineSite → ℕ → Forest → Resolver → Type 0
IsSomeList block site number ts s = (t : Plain) × (targets : Targets) × (r : Routine) × (done : List Routine) × (beyond : List Routine) × (l : Local)
    × IsListOf t targets r done beyond l [] (r.place ++ number ∷ 4 ∷ []) ts × (l.kid ≡ 1) × (l.waiting ≡ []) × IsSite r site × StandsIn (routines_of t) targets r done l block site.owner.0 s

-- the heading by numbers is that of the tree that stands here
pub record HeadHere (t : Tables) (x : RoutineHead) (l : Local) : Type 0 where
  pub shows : ShowsHead t.names.texts x (heading_here l)
  pub later : x.has_later ≡ has_later (heading_here l) (rest_of l.ahead)

-- there is such a tree in a program
abbrev pub IsSomeTree : ℕ → RoutineSite → List ℕ → ℕ → RoutineHead → Plain → List ((ℕ × ℕ) × Option Forward) → Resolver → Type 0
IsSomeTree block site list number x node w s = (t : Plain) × (targets : Targets) × (r : Routine) × (done : List Routine) × (beyond : List Routine) × (l : Local) × (fs : List Forwarded) × (ts : Forest)
    × IsListOf t targets r done beyond l fs list (led_by node ts) × IsSite r site × (number ≡ l.kid) × HeadHere s.tables x l × StandsAmong (routines_of t) targets r done l fs block site.owner.0 w s

-- What is made of a tree in the list of the routines of a block.
abbrev pub ResolvesRoutine : ℕ → RoutineSite → List ℕ → ℕ → RoutineHead → Plain → Resolver → List ((ℕ × ℕ) × Option Forward) → Resolver → List ((ℕ × ℕ) × Option Forward) → BlockEntries → Type 0
ResolvesRoutine block site list number x node old w new v es = (t : Plain) (targets : Targets) (r : Routine) (done beyond : List Routine) (l : Local) (fs : List Forwarded) (ts : Forest) →
    IsListOf t targets r done beyond l fs list (led_by node ts) → IsSite r site → number ≡ l.kid → HeadHere old.tables x l → StandsAmong (routines_of t) targets r done l fs block site.owner.0 w old →
    (es.own.items ≡ (attributes_at (outside_of (routines_of t) r) l (own_tree node)).as_value.entries)
    × (es.inside.items ≡ entries_of (routines_of t) (routines_here r.means l fs list (key_of r.owner) node))
    × ListShown (routines_of t) targets r (routines_here r.means l fs list (key_of r.owner) node) done (behind_here r.means l node) (forwarded_here r.means l fs list (key_of r.owner) node) block site.owner.0 old v new

-- What is made of the list of the routines of a block, which is this kid of its routine.
abbrev pub ResolvesList : ℕ → RoutineSite → ℕ → Plain → Resolver → Resolver → BlockEntries → Type 0
ResolvesList block site number node old new es = (t : Plain) (targets : Targets) (r : Routine) (done beyond : List Routine) (l : Local) →
    IsListOf t targets r done beyond l [] (r.place ++ number ∷ 4 ∷ []) node.kids → l.kid ≡ 1 → l.waiting ≡ [] → IsSite r site → StandsIn (routines_of t) targets r done l block site.owner.0 old →
    let inside = routines_in r.means l [] (r.place ++ number ∷ 4 ∷ []) (key_of r.owner) node.kids in
    (es.own.items ≡ kid_entries 1 (nodes (decorate (outside_of (routines_of t) r) l (own node.kids))))
    × (es.inside.items ≡ entries_of (routines_of t) inside)
    × StandsIn (routines_of t) targets r (done ++ inside) (place_after (bare r.means) l (trees_of (own node.kids))) block site.owner.0 new
    × Visits block old.tables new.tables × Notes (routines_of t) inside old new
