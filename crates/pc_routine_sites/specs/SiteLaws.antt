-- At a routine of a program: its key, its number, and the owners behind it, lemmas.
use Rattle.std.proofs.Common.{◌≡◌, ◌<◌, ℕ, Bool, true, false, ◌&&◌, if◌then◌else◌, List, [], ◌∷◌, ◌++◌, length, get_or, Option, Some, None, refl, ap, sym, ◌∙◌, subst}
use Rattle.std.specs.Option.{is_some, option_and_then}
use Rattle.pc_syntax.specs.Plain.{Plain}
use Rattle.pc_types.specs.Rows.{seen}
use Rattle.pc_types.specs.Shapes.{Owner}
use Rattle.pc_types.specs.Table.{nobody}
use Rattle.pc_types.specs.declared.form.OwnerId.{OwnerId}
use Rattle.pc_names.specs.Table.{Table, slot_named}
use Rattle.pc_rules.specs.Declarations.{heading_here, is_later_declaration}
use Rattle.pc_rules.specs.Outsides.{outside_of}
use Rattle.pc_rules.specs.RoutineList.{Forwarded, forwarded_for, owner_of, extended, key_of, routines_of}
use Rattle.pc_rules.specs.Routines.{Routine, bare}
use Rattle.pc_sightings.specs.TouchedLog.{AreApart}
use Rattle.pc_places.specs.MovesLaws.{own-kept}
use Rattle.pc_places.specs.Places.{known, IsPlace}
use Rattle.pc_places.specs.declared.tables.Tables.{Tables}
use Rattle.pc_routines.specs.Bare.{IsRoutine}
use Rattle.pc_routines.specs.ForwardedLaws.{found-shown}
use Rattle.pc_routines.specs.Heads.{ShowsHead, found_at}
use Rattle.pc_routines.specs.Waits.{ShowsForwarded, waiting_at}
use Rattle.pc_routines.specs.declared.forward.Forward.{Forward}
use Rattle.pc_routines.specs.declared.head.RoutineHead.{RoutineHead}
use Rattle.pc_standing.specs.OutsideLaws.{IsPlace-outside}
use Rattle.pc_routine_sites.specs.DeclaredLaws.{declared-visits, declared-owners}
use Rattle.pc_routine_sites.specs.Identities.{own_key, taken_owner}
use Rattle.pc_routine_sites.specs.IdentityLaws.{is_first_here, key_in, own-key, taken-number, some-taken}
use Rattle.pc_routine_sites.specs.OwnerLaws.{apart-owned, among-owned, number-owned}
use Rattle.pc_routine_sites.specs.Sites.{OwnersAmong, FreshOwner}
use Rattle.pc_routine_sites.specs.Steps.{VisitsRoutine, Visit}
use Rattle.pc_routine_sites.specs.Visits.{Visits}
use Rattle.pc_routine_sites.specs.declared.site.RoutineFound.{RoutineFound}
use Rattle.pc_routine_sites.specs.VisitsLaws.{IsPlace-here, Visits-owned, Visits-then}

-- what is found at it in the block around it
pub visit-facts : (c : Visit) → IsRoutine (outside_of (routines_of c.t) c.outer) c.l c.node c.went.facts
visit-facts c =
    let out = outside_of (routines_of c.t) c.outer in
    c.went.shows c.around.0 out c.l c.fs (IsPlace-outside c.old c.block c.around.0 (routines_of c.t) c.outer c.l c.before.place) c.next.heading c.before.head c.before.later c.before.waits

pub visit-later : (c : Visit) → c.went.facts.later ≡ is_later_declaration c.l
visit-later c = (visit-facts c).later

-- ---- its key

pub visit-key : (c : Visit) → c.f.site.key ≡ key_in c.l c.fs (key_of c.outer.owner)
visit-key c =
    c.went.key
    ∙ ap (λ (k : Option (List (List ℕ))). own_key c.old.names.texts c.w k c.x c.went.facts.later c.went.facts.first) c.given_is
    ∙ own-key c.old c.w c.x c.l c.fs (key_of c.outer.owner) c.went.facts.later c.went.facts.first c.before.head c.before.waits (visit-later c) (visit-facts c).first

pub visit-owner : (c : Visit) → owner_of c.f.site.key c.at ≡ c.r.owner
visit-owner c = (λ i. owner_of (visit-key c i) (c.at_is i)) ∙ sym (ap (λ (q : Routine). q.owner) c.next.is)

-- ---- its number

-- the forward routine that it is the later declaration of
abbrev found-here : Visit → Option Forward
found-here c = found_at (waiting_at c.w) c.x.name c.x.is_function

pub visit-forward : (c : Visit) → ShowsForwarded c.old (found_at (waiting_at c.w) c.x.name c.x.is_function) (forwarded_for (heading_here c.l) c.fs)
visit-forward c = found-shown c.old c.w c.x (heading_here c.l) c.l.waiting c.fs c.before.head c.before.waits

-- the key of one that is no later declaration
abbrev first-here : Visit → Option (List (List ℕ))
first-here c = if is_first_here c.l then extended (key_of c.outer.owner) (heading_here c.l).name else None

abbrev key-by : Visit → Bool → Option (List (List ℕ))
key-by c b = if b then option_and_then (λ (f : Forwarded). f.key) (forwarded_for (heading_here c.l) c.fs) else first-here c

abbrev taken-here : Visit → Option OwnerId
taken-here c = taken_owner c.went.facts.later (length (known c.old).table.owners) (found-here c)

taken-is : (c : Visit) (d : OwnerId) → taken-here c ≡ Some d → get_or (known c.old).table.owners d.0 nobody ≡ owner_of c.f.site.key c.at
taken-is c d e =
    taken-number c.old c.at c.went.facts.later (found-here c) (forwarded_for (heading_here c.l) c.fs) (first-here c) d (visit-forward c) e
    ∙ ap (λ (b : Bool). owner_of (key-by c b) c.at) (visit-later c)
    ∙ sym (ap (λ (k : Option (List (List ℕ))). owner_of k c.at) (visit-key c))

pub visit-number : (c : Visit) → get_or (known c.went.owned).table.owners c.f.site.owner.0 nobody ≡ c.r.owner
visit-number c =
    number-owned (taken-here c) (owner_of c.f.site.key c.at) (seen c.old.types) (seen c.went.owned.types) c.f.site.owner c.went.owner (taken-is c) ∙ visit-owner c

-- it is new, unless a forward routine with a key has it
fresh-here : (c : Visit) → taken-here c ≡ None → FreshOwner c.done c.r
fresh-here c none = by (c.r.is_later && c.r.has_key) refl
  where
    both : (c.went.facts.later && is_some (key-by c c.went.facts.later)) ≡ (c.r.is_later && c.r.has_key)
    both = ap (λ (b : Bool). b && is_some (key-by c b)) (visit-later c) ∙ sym (ap (λ (q : Routine). q.is_later && q.has_key) c.next.is)

    by : (b : Bool) → (c.r.is_later && c.r.has_key) ≡ b → FreshOwner c.done c.r
    by false e = c.next.fresh e
    by true e = absurd (some-taken c.old c.at c.went.facts.later (found-here c) (forwarded_for (heading_here c.l) c.fs) (first-here c) (visit-forward c) (both ∙ e) none)

-- ---- owners behind it

owners-are : (c : Visit) → (known c.new).table.owners ≡ (known c.went.owned).table.owners
owners-are c = declared-owners c.block c.around c.f.site.owner c.x c.went.facts.later c.node c.went.head c.went.owned c.new c.went.declares

pub visit-apart : (c : Visit) → AreApart (known c.new).table.owners
visit-apart c =
    subst AreApart (sym (owners-are c))
    (apart-owned (taken-here c) (owner_of c.f.site.key c.at) (seen c.old.types) (seen c.went.owned.types) c.f.site.owner c.done c.r c.went.owner (visit-owner c) c.before.sound.owners (fresh-here c)
    c.before.sound.apart)

pub visit-among : (c : Visit) → OwnersAmong (known c.new).table.owners (c.done ++ c.r ∷ [])
visit-among c =
    subst (λ (os : List Owner). OwnersAmong os (c.done ++ c.r ∷ [])) (sym (owners-are c))
    (among-owned (taken-here c) (owner_of c.f.site.key c.at) (seen c.old.types) (seen c.went.owned.types) c.f.site.owner c.done c.r c.went.owner (visit-owner c) c.before.sound.owners)

pub visit-owner_is : (c : Visit) → get_or (known c.new).table.owners c.f.site.owner.0 nobody ≡ c.r.owner
visit-owner_is c = ap (λ (os : List Owner). get_or os c.f.site.owner.0 nobody) (owners-are c) ∙ visit-number c

pub visit-there : (c : Visit) → c.f.site.owner.0 < length (known c.new).table.owners
visit-there c = subst (λ (os : List Owner). c.f.site.owner.0 < length os) (sym (owners-are c)) c.went.there

-- ---- the tables with its number

module _ (block : ℕ) (around : OwnerId) (given : Option (List (List ℕ))) (at : List ℕ) (x : RoutineHead) (node : Plain) (old new : Tables) (w v : List ((ℕ × ℕ) × Option Forward)) (f : RoutineFound)
    (h : VisitsRoutine block around given at x node old new w v f) where
  owned-visits : Visits block old h.owned
  owned-visits =
      Visits-owned block (taken_owner h.facts.later (length (known old).table.owners) (found_at (waiting_at w) x.name x.is_function)) (owner_of f.site.key at) f.site.owner old h.owned h.owner h.names
      h.declarations h.signatures h.texts

  -- the tables behind it, whichever routine it is
  pub routine-visits : Visits block old new
  routine-visits = Visits-then block old h.owned new owned-visits (declared-visits block around f.site.owner x h.facts.later node h.head h.owned new h.declares)

pub visit-owned : (c : Visit) → Visits c.block c.old c.went.owned
visit-owned c = owned-visits c.block c.around c.given c.at c.x c.node c.old c.new c.w c.v c.f c.went

pub visit-visits : (c : Visit) → Visits c.block c.old c.new
visit-visits c = routine-visits c.block c.around c.given c.at c.x c.node c.old c.new c.w c.v c.f c.went

pub visit-head : (c : Visit) → ShowsHead c.went.owned.names.texts c.x (heading_here c.l)
visit-head c = subst (λ (t : Table). ShowsHead t.texts c.x (heading_here c.l)) (sym c.went.names) c.before.head

pub visit-place : (c : Visit) → IsPlace c.went.owned c.block c.around.0 (bare c.outer.means) c.l
visit-place c =
    let k = visit-owned c in
    IsPlace-here c.old c.went.owned c.block c.around.0 (bare c.outer.means) c.l c.l k refl refl
    (own-kept c.old c.went.owned c.block c.l k.grows k.declarations (λ n. ap (λ (t : Table). slot_named t c.block n) c.went.names) c.before.place.own) c.before.place
