-- A hole in the list of the routines of a block: all is as it was, lemmas.
use Rattle.std.proofs.Common.{◌≡◌, ℕ, Bool, true, false, if◌then◌else◌, List, [], ◌∷◌, ◌++◌, Option, refl, ap, sym, ◌∙◌, subst, append-nil}
use Rattle.pc_syntax.specs.Classes.{is_routine}
use Rattle.pc_syntax.specs.Plain.{Plain}
use Rattle.pc_syntax.specs.declared.kind.Kind.{Kind}
use Rattle.pc_syntax.specs.declared.kind.Kind.TheVariants as kind
use Rattle.pc_scope.specs.Headings.{Heading, is_routine_kind}
use Rattle.pc_rules.specs.Attributes.{Attributes}
use Rattle.pc_rules.specs.Errors.{entries_of}
use Rattle.pc_rules.specs.Meanings.{Local, Outside}
use Rattle.pc_rules.specs.Outsides.{outside_of}
use Rattle.pc_rules.specs.Places.{beside}
use Rattle.pc_rules.specs.RoutineList.{Forwarded, forwarded_by, key_of, routines_below, routines_of}
use Rattle.pc_rules.specs.Routines.{Routine, bare}
use Rattle.pc_environment.specs.Decorating.{attributes_at}
use Rattle.pc_program_laws.specs.Routines.{routine_here}
use Rattle.pc_pointers.specs.Good.{Targets}
use Rattle.pc_places.specs.Places.{IsPlace}
use Rattle.pc_places.specs.PlacesLaws.{IsPlace-alike}
use Rattle.pc_places.specs.declared.tables.Tables.{Tables}
use Rattle.pc_routines.specs.Waits.{Waits}
use Rattle.pc_routines.specs.declared.forward.Forward.{Forward}
use Rattle.pc_routines.specs.declared.head.RoutineHead.{RoutineHead}
use Rattle.pc_standing.specs.Signed.{OwnsRoutines}
use Rattle.pc_routine_sites.specs.VisitsLaws.{Visits-same}
use Rattle.pc_routine_sites.specs.declared.site.RoutineSite.{RoutineSite}
use Rattle.pc_resolve.specs.Lists.{ListShown, ResolvesRoutine, StandsAmong, behind_here, forwarded_here, own_tree, routines_here}
use Rattle.pc_resolve.specs.declared.resolver.BlockEntries.{BlockEntries}
use Rattle.pc_resolve.specs.declared.resolver.Resolver.{Resolver}
use Rattle.pc_resolve.proofs.BesideLemmas.{behind-own, hole-entries, opens-none}
use Rattle.pc_resolve.proofs.NotesLemmas.{Notes-none}

-- no routine is there, and the same forward ones wait
pub here-none : (r : Routine) (l : Local) (fs : List Forwarded) (list : List ℕ) (node : Plain) → is_routine_kind node.kind ≡ false → routines_here r.means l fs list (key_of r.owner) node ≡ []
here-none r l fs list node e =
    let q = routine_here r.means l fs list (key_of r.owner) node.kind node.word node.notes node.kids in ap (λ (b : Bool). if b then q ∷ routines_below q 1 node.kids else []) e

pub forwarded-none : (r : Routine) (l : Local) (fs : List Forwarded) (list : List ℕ) (node : Plain) → is_routine_kind node.kind ≡ false → forwarded_here r.means l fs list (key_of r.owner) node ≡ fs
forwarded-none r l fs list node e =
    let q = routine_here r.means l fs list (key_of r.owner) node.kind node.word node.notes node.kids in ap (λ (b : Bool). if b then forwarded_by l q fs else fs) e

-- ---- the place behind it

nothing-opened : {X : Type 0} (b : Bool) (xs ys : List X) → xs ≡ [] → (if b then xs ++ ys else ys) ≡ ys
nothing-opened true xs ys e = ap (λ zs. zs ++ ys) e
nothing-opened false xs ys e = refl

place-hole : (t : Tables) (block owner : ℕ) (out : Outside) (l : Local) (k : Kind) (a : Attributes) → is_routine k ≡ true → is_routine_kind k ≡ false → a.opens ≡ [] → IsPlace t block owner out l →
    IsPlace t block owner out (beside l k a)
place-hole t block owner out l (kind.Hole x) a r e o h =
    IsPlace-alike t block owner out l (beside l (kind.Hole x) a) (nothing-opened l.opening a.opens l.fields o) refl (λ n. refl) (λ n. refl) (λ n. refl) h
place-hole t block owner out l k a r e o h = cc

owns-hole : (o : Routine) (l : Local) (k : Kind) (a : Attributes) → is_routine k ≡ true → is_routine_kind k ≡ false → OwnsRoutines o.owner l.known → OwnsRoutines o.owner (beside l k a).known
owns-hole o l (kind.Hole x) a r e h = h
owns-hole o l k a r e h = cc

waiting-hole : (l : Local) (k : Kind) (a : Attributes) → is_routine k ≡ true → is_routine_kind k ≡ false → (beside l k a).waiting ≡ l.waiting
waiting-hole l (kind.Hole x) a r e = refl
waiting-hole l k a r e = cc

-- the state says what is so there
stands-hole : (all : List Routine) (targets : Targets) (r : Routine) (done : List Routine) (l : Local) (fs : List Forwarded) (block owner : ℕ) (w : List ((ℕ × ℕ) × Option Forward)) (s : Resolver) (node : Plain) →
    is_routine node.kind ≡ true → is_routine_kind node.kind ≡ false → StandsAmong all targets r done l fs block owner w s → StandsAmong all targets r done (behind_here r.means l node) fs block owner w s
stands-hole all targets r done l fs block owner w s node is none h =
    let a = attributes_at (bare r.means) l (own_tree node) in
    let o = opens-none (bare r.means) l (own_tree node) is in
    let there : StandsAmong all targets r done (beside l node.kind a) fs block owner w s = record {
      stands = record {
        place = place-hole s.tables block owner (bare r.means) l node.kind a is none o h.stands.place;
        owns = owns-hole r l node.kind a is none h.stands.owns;
        sound = h.stands.sound;
        told = h.stands.told;
      };
      waits = subst (λ (hs : List Heading). Waits s.tables w hs fs) (sym (waiting-hole l node.kind a is none)) h.waits;
    } in
    subst (λ (m : Local). StandsAmong all targets r done m fs block owner w s) (sym (behind-own r l node)) there

-- ---- all of it

list-hole : (all : List Routine) (targets : Targets) (r : Routine) (done : List Routine) (l : Local) (fs : List Forwarded) (list : List ℕ) (block owner : ℕ) (w : List ((ℕ × ℕ) × Option Forward)) (s : Resolver)
    (node : Plain) → is_routine node.kind ≡ true → is_routine_kind node.kind ≡ false → StandsAmong all targets r done l fs block owner w s →
    ListShown all targets r (routines_here r.means l fs list (key_of r.owner) node) done (behind_here r.means l node) (forwarded_here r.means l fs list (key_of r.owner) node) block owner s w s
list-hole all targets r done l fs list block owner w s node is none h =
    let m = behind_here r.means l node in
    let here = sym (here-none r l fs list node none) in
    let gives = sym (forwarded-none r l fs list node none) in
    let there = stands-hole all targets r done l fs block owner w s node is none h in
    let begun : ListShown all targets r [] done m fs block owner s w s = record {
      stands = subst (λ (rs : List Routine). StandsAmong all targets r rs m fs block owner w s) (sym (append-nil done)) there;
      visits = Visits-same block s.tables;
      notes = Notes-none all s s refl refl;
    } in
    subst (λ (p : List Routine × List Forwarded). ListShown all targets r p.0 done m p.1 block owner s w s) (λ i. (here i, gives i)) begun

pub resolves-hole : (block : ℕ) (site : RoutineSite) (list : List ℕ) (number : ℕ) (x : RoutineHead) (node : Plain) (s : Resolver) (w : List ((ℕ × ℕ) × Option Forward)) (es : BlockEntries) →
    is_routine node.kind ≡ true → is_routine_kind node.kind ≡ false → es.own.items ≡ [] → es.inside.items ≡ [] → ResolvesRoutine block site list number x node s w s w es
resolves-hole block site list number x node s w es is none own inside = λ t targets r done beyond l fs ts left at number_is head stands.
    let all = routines_of t in (
      own ∙ sym (hole-entries (outside_of all r) l node is none),
      inside ∙ ap (entries_of all) (sym (here-none r l fs list node none)),
      list-hole all targets r done l fs list block site.owner.0 w s node is none stands,
    )
