-- From tree to tree in the list of the routines of a block: lemmas.
use Rattle.std.proofs.Common.{◌≡◌, ◌+◌, ℕ, suc, Bool, true, false, if◌then◌else◌, List, [], ◌∷◌, ◌++◌, refl, ap, sym, ◌∙◌, append_assoc, arith}
use Rattle.pc_syntax.specs.Places.{at}
use Rattle.pc_syntax.specs.Classes.{is_routine}
use Rattle.pc_syntax.specs.Plain.{Forest, Nil, Cons, Plain}
use Rattle.pc_syntax.specs.declared.kind.Kind.{Kind}
use Rattle.pc_syntax.specs.declared.kind.Kind.TheVariants as kind
use Rattle.pc_scope.specs.Headings.{heading_of, headings_in, is_routine_kind}
use Rattle.pc_rules.specs.Declarations.{heading_here, head_or, rest_of}
use Rattle.pc_rules.specs.Attributes.{first}
use Rattle.pc_rules.specs.Decorated.{decorate}
use Rattle.pc_rules.specs.Meanings.{Local, Outside}
use Rattle.pc_rules.specs.OwnBlock.{own}
use Rattle.pc_rules.specs.Places.{inner, entered}
use Rattle.pc_rules.specs.RoutineList.{Forwarded, ARoutine, NoRoutine, key_of, forwarded_by, part_of, routines_in, routines_below, routines_of}
use Rattle.pc_rules.specs.Routines.{Routine, bare}
use Rattle.pc_needs.proofs.PlaceLemmas.{one-front}
use Rattle.pc_places.specs.Places.{IsPlace}
use Rattle.pc_places.specs.PlacesLaws.{IsPlace-alike, IsPlace-entered}
use Rattle.pc_places.specs.declared.tables.Tables.{Tables}
use Rattle.pc_routines.specs.BesideLaws.{ahead-beside}
use Rattle.pc_block_laws.specs.BodyPlace.{BodyPlaceLaw}
use Rattle.pc_pointers.specs.Good.{Targets}
use Rattle.pc_program_laws.specs.Routines.{NextRoutineLaw, NoRoutineLaw, routine_here}
use Rattle.pc_standing.specs.Signed.{OwnsRoutines}
use Rattle.pc_routine_sites.specs.Sites.{IsNext}
use Rattle.pc_resolve.specs.Lists.{IsListOf, led_by, routines_here, forwarded_here, behind_here}

pub part-routine : (k : Kind) → is_routine_kind k ≡ true → part_of k ≡ ARoutine
part-routine kind.Procedure e = refl
part-routine kind.Function e = refl
part-routine kind.Funbody e = refl
part-routine k e = cc

-- the routines of a list are those of its first tree and those of the others
pub routines-first : NextRoutineLaw → NoRoutineLaw → (r : Routine) (l : Local) (fs : List Forwarded) (list : List ℕ) (node : Plain) (ts : Forest) → (is_routine_kind node.kind ≡ false → part_of node.kind ≡ NoRoutine) →
    routines_in r.means l fs list (key_of r.owner) (led_by node ts)
    ≡ routines_here r.means l fs list (key_of r.owner) node ++ routines_in r.means (behind_here r.means l node) (forwarded_here r.means l fs list (key_of r.owner) node) list (key_of r.owner) ts
routines-first next other r l fs list node ts none = by (is_routine_kind node.kind) refl
  where
    q : Routine
    q = routine_here r.means l fs list (key_of r.owner) node.kind node.word node.notes node.kids

    by : (b : Bool) → is_routine_kind node.kind ≡ b →
        routines_in r.means l fs list (key_of r.owner) (led_by node ts)
        ≡ (if b then q ∷ routines_below q 1 node.kids else []) ++ routines_in r.means (behind_here r.means l node) (if b then forwarded_by l q fs else fs) list (key_of r.owner) ts
    by true e = next r.means l fs list (key_of r.owner) node.kind node.word node.notes node.kids ts (part-routine node.kind e)
    by false e = other r.means l fs list (key_of r.owner) node.kind node.word node.notes node.kids ts (none e)

-- so is the order of all
pub order-first : (all done first rest beyond here : List Routine) → all ≡ done ++ here ++ beyond → here ≡ first ++ rest → all ≡ (done ++ first) ++ rest ++ beyond
order-first all done first rest beyond here e h =
    e ∙ ap (λ (rs : List Routine). done ++ rs ++ beyond) h ∙ ap (λ (rs : List Routine). rs ++ beyond) (sym (append_assoc done first rest))

-- the heading of the first
pub heading-first : (l : Local) (node : Plain) (ts : Forest) → l.ahead ≡ headings_in (led_by node ts) → heading_here l ≡ heading_of node.kind node.kids
heading-first l node ts e = ap head_or e

-- a routine that stands first in such a list
pub is-next : NextRoutineLaw → (t : Plain) (targets : Targets) (r : Routine) (done beyond : List Routine) (l : Local) (fs : List Forwarded) (list : List ℕ) (node : Plain) (ts : Forest) →
    is_routine_kind node.kind ≡ true → OwnsRoutines r.owner l.known → IsListOf t targets r done beyond l fs list (led_by node ts) →
    let q = routine_here r.means l fs list (key_of r.owner) node.kind node.word node.notes node.kids in
    IsNext t r q done (routines_below q 1 node.kids ++ routines_in r.means (behind_here r.means l node) (forwarded_by l q fs) list (key_of r.owner) ts ++ beyond) l fs list node
is-next next t targets r done beyond l fs list node ts is owns h =
    let q = routine_here r.means l fs list (key_of r.owner) node.kind node.word node.notes node.kids in
    let below = routines_below q 1 node.kids in
    let rest = routines_in r.means (behind_here r.means l node) (forwarded_by l q fs) list (key_of r.owner) ts in
    let here = next r.means l fs list (key_of r.owner) node.kind node.word node.notes node.kids ts (part-routine node.kind is) in
    let order : routines_of t ≡ done ++ (q ∷ (below ++ rest ++ beyond)) =
    h.order ∙ ap (λ (rs : List Routine). done ++ rs ++ beyond) here ∙ append_assoc done (q ∷ (below ++ rest)) beyond in
    record {
      proper = h.facts.proper;
      program = h.facts.program;
      around_one = h.among;
      order = order;
      is = refl;
      owner = h.owner;
      heading = heading-first l node ts h.ahead;
      owns = owns;
      fresh = h.facts.fresh done (below ++ rest ++ beyond) q order;
    }

plus-suc : (m n : ℕ) → suc m + n ≡ m + suc n
plus-suc m n = omega arith

-- the rest of such a list, behind its first tree
pub list-behind : NextRoutineLaw → NoRoutineLaw → BodyPlaceLaw → (t : Plain) (targets : Targets) (r : Routine) (done beyond : List Routine) (l : Local) (fs : List Forwarded) (list : List ℕ) (node : Plain) (ts : Forest) →
    is_routine node.kind ≡ true → (is_routine_kind node.kind ≡ false → part_of node.kind ≡ NoRoutine) → IsListOf t targets r done beyond l fs list (led_by node ts) →
    IsListOf t targets r (done ++ routines_here r.means l fs list (key_of r.owner) node) beyond (behind_here r.means l node) (forwarded_here r.means l fs list (key_of r.owner) node) list ts
list-behind next other body t targets r done beyond l fs list node ts is none h =
    let a = first (decorate (bare r.means) l (own (Cons node.kind node.word node.notes node.kids Nil))) in
    let here = routines_here r.means l fs list (key_of r.owner) node in
    let rest = routines_in r.means (behind_here r.means l node) (forwarded_here r.means l fs list (key_of r.owner) node) list (key_of r.owner) ts in
    record {
      facts = h.facts;
      among = h.among;
      gone = one-front done here r h.gone;
      owner = (body.next l node.kind a).owner ∙ h.owner;
      ahead = ahead-beside l node.kind a is ∙ ap rest_of h.ahead;
      kids = λ i. ap (λ (n : ℕ). at (list ++ n ∷ []) t) (plus-suc l.kid i) ∙ h.kids (suc i);
      order = order-first (routines_of t) done here rest beyond (routines_in r.means l fs list (key_of r.owner) (led_by node ts)) h.order (routines-first next other r l fs list node ts none);
    }

-- where the list begins the tables stand for the same names
pub enter-list : (t : Tables) (block owner : ℕ) (out : Outside) (l : Local) (ks : Forest) → IsPlace t block owner out l → IsPlace t block owner out (inner l kind.Routines ks)
enter-list t block owner out l ks h =
    IsPlace-entered t block owner out l kind.Routines ks (IsPlace-alike t block owner out l (entered l kind.Routines ks) refl refl (λ n. refl) (λ n. refl) (λ n. refl) h)
