-- The list of the routines of a block, from its beginning to its end: lemmas.
use Rattle.std.proofs.Common.{◌≡◌, ◌+◌, ℕ, suc, true, List, [], ◌++◌, Option, refl, ap, sym, ◌∙◌, subst, append-nil, append_assoc, arith}
use Rattle.pc_syntax.specs.Classes.{is_routine}
use Rattle.pc_syntax.specs.Plain.{Forest, Nil, Plain, trees_of}
use Rattle.pc_syntax.specs.WellFormed.{IsProper}
use Rattle.pc_types.specs.Rows.{IsInOrder}
use Rattle.pc_names.specs.Chains.{chain_of}
use Rattle.pc_scope.specs.Headings.{Heading}
use Rattle.pc_rules.specs.Attributes.{Entry, Marked, at_kid, nodes}
use Rattle.pc_rules.specs.Errors.{entries_of}
use Rattle.pc_environment.specs.Decorating.{attributes_at, place_behind, place_after}
use Rattle.pc_environment.specs.DecoratingLaws.{decorate-forest_of}
use Rattle.pc_rules.specs.Decorated.{decorate}
use Rattle.pc_rules.specs.HandedOn.{kid_entries}
use Rattle.pc_rules.specs.Meanings.{Local, Outside}
use Rattle.pc_rules.specs.Outsides.{outside_of}
use Rattle.pc_rules.specs.OwnBlock.{own}
use Rattle.pc_rules.specs.RoutineList.{Forwarded, key_of, routines_in, routines_of}
use Rattle.pc_rules.specs.Routines.{Routine, bare}
use Rattle.pc_program_laws.specs.Inside.{InsideLaw}
use Rattle.pc_program_laws.specs.Routines.{RoutinesLaw}
use Rattle.pc_pointers.specs.Good.{Targets}
use Rattle.pc_block_laws.specs.BodyPlace.{BodyPlaceLaw}
use Rattle.pc_block_laws.specs.Touched.{TouchedLaw}
use Rattle.pc_places.specs.MovesLaws.{IsPlace-kept}
use Rattle.pc_places.specs.Places.{Keeps, known}
use Rattle.pc_routines.specs.Waits.{Waits}
use Rattle.pc_routines.specs.declared.forward.Forward.{Forward}
use Rattle.pc_domains.specs.Told.{IsTold, Told}
use Rattle.pc_domains.specs.ToldLaws.{IsTold-moves}
use Rattle.pc_routine_sites.specs.Sites.{Sound}
use Rattle.pc_routine_sites.specs.Visits.{Visits}
use Rattle.pc_routine_sites.specs.VisitsLaws.{Visits-kept, Visits-then, chain-visited}
use Rattle.pc_resolve.specs.Blocks.{Notes}
use Rattle.pc_resolve.specs.Lists.{IsListOf, ListShown, StandsAmong, StandsIn, behind_here, forwarded_here, led_by, own_tree, routines_here}
use Rattle.pc_resolve.specs.Walk.{SoFar}
use Rattle.pc_resolve.specs.declared.resolver.BlockEntries.{BlockEntries}
use Rattle.pc_resolve.specs.declared.resolver.Resolver.{Resolver}
use Rattle.pc_resolve.proofs.BesideLemmas.{after-led, behind-own, entries-led, part-hole, same-behind}
use Rattle.pc_resolve.proofs.ListLemmas.{list-behind, routines-first}
use Rattle.pc_resolve.proofs.NotesLemmas.{Notes-none, Notes-then}
use Rattle.pc_resolve.proofs.SoundLemmas.{sound-kept}

-- the state says the same where more is numbered alone
pub stands-kept : (all : List Routine) (targets : Targets) (r : Routine) (done : List Routine) (l : Local) (block owner : ℕ) (old s : Resolver) → IsInOrder old.tables.types → Keeps old.tables s.tables →
    s.domains ≡ old.domains → StandsIn all targets r done l block owner old → StandsIn all targets r done l block owner s
stands-kept all targets r done l block owner old s order keeps domains h =
    let chain = h.place.chain in
    let same : chain_of s.tables.names.chains block ≡ chain_of old.tables.names.chains block =
    chain-visited old.tables.names.chains s.tables.names.chains block block h.place.outer keeps.chains chain ∙ sym chain in
    record {
      place = IsPlace-kept old.tables s.tables block owner (bare r.means) l keeps h.place;
      owns = h.owns;
      sound =
          subst (λ (bs : List ℕ). Sound all done s.tables bs) (sym same)
          (sound-kept all done block old.tables s.tables (chain_of old.tables.names.chains block) keeps h.sound);
      told = subst (λ (d : Told). IsTold targets d (known s.tables)) (sym domains) (IsTold-moves targets old.domains old.tables s.tables order keeps.grows keeps.domains h.told);
    }

-- before the first tree, once the headings were taken
pub walk-start : (t : Plain) (targets : Targets) (r : Routine) (done beyond : List Routine) (l : Local) (list : List ℕ) (ts : Forest) (block owner : ℕ) (old s : Resolver) (w : List ((ℕ × ℕ) × Option Forward)) →
    IsInOrder old.tables.types → Keeps old.tables s.tables → s.domains ≡ old.domains → s.touched ≡ old.touched → s.kept ≡ old.kept → IsListOf t targets r done beyond l [] list ts → l.kid ≡ 1 → l.waiting ≡ [] →
    StandsIn (routines_of t) targets r done l block owner old → Waits s.tables w [] [] → SoFar t targets r done beyond l list ts ts block owner 0 old w s [] []
walk-start t targets r done beyond l list ts block owner old s w order keeps domains touched kept h first none stands waits =
    let all = routines_of t in
    let gone : done ≡ done ++ [] = sym (append-nil done) in
    let there = stands-kept all targets r done l block owner old s order keeps domains stands in
    record {
      place = l;
      forwarded = [];
      inside = [];
      so_many = sym first;
      left = subst (λ (rs : List Routine). IsListOf t targets r rs beyond l [] list ts) gone h;
      stands = record {
        stands = subst (λ (rs : List Routine). StandsIn all targets r rs l block owner s) gone there;
        waits = subst (λ (hs : List Heading). Waits s.tables w hs []) (sym none) waits;
      };
      visits = Visits-kept block old.tables s.tables keeps;
      notes = Notes-none all old s touched kept;
      routines = refl;
      own_are = ap (λ (n : ℕ). kid_entries n (nodes (decorate (outside_of all r) l (own ts)))) (sym first);
      inside_are = refl;
      behind = refl;
    }

-- ---- one tree more

-- what is found at the first of them, where it stands
abbrev pub FindsTree : Plain → Targets → Routine → List Routine → Local → List Forwarded → List ℕ → Plain → ℕ → ℕ → Resolver → List ((ℕ × ℕ) × Option Forward) → Resolver → BlockEntries → Type 0
FindsTree t targets r done l fs list node block owner old v new es =
    (es.own.items ≡ (attributes_at (outside_of (routines_of t) r) l (own_tree node)).as_value.entries)
    × (es.inside.items ≡ entries_of (routines_of t) (routines_here r.means l fs list (key_of r.owner) node))
    × ListShown (routines_of t) targets r (routines_here r.means l fs list (key_of r.owner) node) done (behind_here r.means l node) (forwarded_here r.means l fs list (key_of r.owner) node) block owner old v new

plus-one : (n : ℕ) → n + 1 ≡ suc n
plus-one n = omega arith

-- what the rules find there, and behind it
own-step : (all : List Routine) (r : Routine) (l : Local) (number : ℕ) (node : Plain) (ts : Forest) (own_so own_then found es : List Entry) → is_routine node.kind ≡ true → IsProper node → number ≡ l.kid →
    es ≡ own_so ++ kid_entries l.kid (nodes (decorate (outside_of all r) l (own (led_by node ts)))) → found ≡ (attributes_at (outside_of all r) l (own_tree node)).as_value.entries →
    own_then ≡ own_so ++ at_kid number found → es ≡ own_then ++ kid_entries (suc l.kid) (nodes (decorate (outside_of all r) (behind_here r.means l node) (own ts)))
own-step all r l number node ts own_so own_then found es is proper number_is so_far shown more =
    let out = outside_of all r in
    let m = behind_here r.means l node in
    let same : place_behind out l (own_tree node) ≡ m = same-behind out (bare r.means) l node is proper ∙ sym (behind-own r l node) in
    let here = (attributes_at out l (own_tree node)).as_value.entries in
    let rest = kid_entries (suc l.kid) (nodes (decorate out m (own ts))) in
    let led : kid_entries l.kid (nodes (decorate out l (own (led_by node ts)))) ≡ at_kid l.kid here ++ rest =
    entries-led out l l.kid node ts ∙ ap (λ (p : Local). at_kid l.kid here ++ kid_entries (suc l.kid) (nodes (decorate out p (own ts)))) same in
    let then : own_then ≡ own_so ++ at_kid l.kid here = more ∙ (λ i. own_so ++ at_kid (number_is i) (shown i)) in
    so_far ∙ ap (λ (fs : List Entry). own_so ++ fs) led ∙ sym (append_assoc own_so (at_kid l.kid here) rest) ∙ ap (λ (fs : List Entry). fs ++ rest) (sym then)

-- what stands behind all
behind-step : (r : Routine) (l p : Local) (node : Plain) (ts : Forest) → p ≡ place_after (bare r.means) l (trees_of (own (led_by node ts))) → p ≡ place_after (bare r.means) (behind_here r.means l node) (trees_of (own ts))
behind-step r l p node ts e =
    e ∙ after-led (bare r.means) l node ts ∙ ap (λ (m : Local). place_after (bare r.means) m (trees_of (own ts))) (sym (behind-own r l node))

pub walk-step : RoutinesLaw → BodyPlaceLaw → InsideLaw → TouchedLaw → (t : Plain) (targets : Targets) (r : Routine) (done beyond : List Routine) (l : Local) (list : List ℕ) (all : Forest) (node : Plain) (ts : Forest)
    (block owner count : ℕ) (old : Resolver) (w : List ((ℕ × ℕ) × Option Forward)) (mid : Resolver) (own_so inside_so : List Entry) (number : ℕ) (v : List ((ℕ × ℕ) × Option Forward)) (new : Resolver) (es : BlockEntries)
    (own_then inside_then : List Entry) → is_routine node.kind ≡ true → IsProper node → number ≡ count + 1 →
    (h : SoFar t targets r done beyond l list all (led_by node ts) block owner count old w mid own_so inside_so) →
    FindsTree t targets r (done ++ h.inside) h.place h.forwarded list node block owner mid v new es → own_then ≡ own_so ++ at_kid number es.own.items → inside_then ≡ inside_so ++ es.inside.items →
    SoFar t targets r done beyond l list all ts block owner number old v new own_then inside_then
walk-step law body inner touched t targets r done beyond l list all node ts block owner count old w mid own_so inside_so number v new es own_then inside_then is proper next h found more below =
    let rs = routines_of t in
    let here = routines_here r.means h.place h.forwarded list (key_of r.owner) node in
    let m = behind_here r.means h.place node in
    let gives = forwarded_here r.means h.place h.forwarded list (key_of r.owner) node in
    let shown = found.2 in
    let number_is : number ≡ h.place.kid = next ∙ h.so_many in
    let gone : (done ++ h.inside) ++ here ≡ done ++ (h.inside ++ here) = append_assoc done h.inside here in
    let left = list-behind law.next law.other body t targets r (done ++ h.inside) beyond h.place h.forwarded list node ts is (part-hole node.kind is) h.left in
    record {
      place = m;
      forwarded = gives;
      inside = h.inside ++ here;
      so_many = plus-one number ∙ ap suc number_is;
      left = subst (λ (qs : List Routine). IsListOf t targets r qs beyond m gives list ts) gone left;
      stands = subst (λ (qs : List Routine). StandsAmong rs targets r qs m gives block owner v new) gone shown.stands;
      visits = Visits-then block old.tables mid.tables new.tables h.visits shown.visits;
      notes = Notes-then inner touched rs h.inside here old mid new shown.visits.grows h.notes shown.notes;
      routines =
          h.routines
          ∙ ap (λ (qs : List Routine). h.inside ++ qs) (routines-first law.next law.other r h.place h.forwarded list node ts (part-hole node.kind is))
          ∙ sym (append_assoc h.inside here (routines_in r.means m gives list (key_of r.owner) ts));
      own_are =
          own-step rs r h.place number node ts own_so own_then es.own.items (kid_entries 1 (nodes (decorate (outside_of rs r) l (own all)))) is proper number_is h.own_are found.0 more;
      inside_are = below ∙ (λ i. h.inside_are i ++ found.1 i) ∙ sym (law.entries rs h.inside here);
      behind = behind-step r h.place (place_after (bare r.means) l (trees_of (own all))) node ts h.behind;
    }

-- ---- to its end

pub own-none : own Nil ≡ Nil
unfolding own
own-none = refl

none-left : (r : Routine) (l : Local) (fs : List Forwarded) (list : List ℕ) → routines_in r.means l fs list (key_of r.owner) Nil ≡ []
unfolding routines_in
none-left r l fs list = refl

no-entries : (out : Outside) (l : Local) (n : ℕ) → kid_entries n (nodes (decorate out l (own Nil))) ≡ []
no-entries out l n = ap (λ (f : Forest). kid_entries n (nodes (decorate out l f))) own-none ∙ ap (λ (m : Marked). kid_entries n (nodes m)) (decorate-forest_of out l [])

-- behind the last tree
pub walk-end : (t : Plain) (targets : Targets) (r : Routine) (done beyond : List Routine) (l : Local) (list : List ℕ) (ts : Forest) (block owner count : ℕ) (old : Resolver) (w : List ((ℕ × ℕ) × Option Forward)) (new : Resolver)
    (own_so inside_so : List Entry) → SoFar t targets r done beyond l list ts Nil block owner count old w new own_so inside_so →
    let inside = routines_in r.means l [] list (key_of r.owner) ts in
    (own_so ≡ kid_entries 1 (nodes (decorate (outside_of (routines_of t) r) l (own ts)))) × (inside_so ≡ entries_of (routines_of t) inside)
    × StandsIn (routines_of t) targets r (done ++ inside) (place_after (bare r.means) l (trees_of (own ts))) block owner new × Visits block old.tables new.tables × Notes (routines_of t) inside old new
walk-end t targets r done beyond l list ts block owner count old w new own_so inside_so h =
    let all = routines_of t in
    let same : h.inside ≡ routines_in r.means l [] list (key_of r.owner) ts =
    sym (h.routines ∙ ap (λ (rs : List Routine). h.inside ++ rs) (none-left r h.place h.forwarded list) ∙ append-nil h.inside) in
    let last : h.place ≡ place_after (bare r.means) l (trees_of (own ts)) = sym (h.behind ∙ ap (λ (f : Forest). place_after (bare r.means) h.place (trees_of f)) own-none) in (
      sym (h.own_are ∙ ap (λ (es : List Entry). own_so ++ es) (no-entries (outside_of all r) h.place h.place.kid) ∙ append-nil own_so),
      h.inside_are ∙ ap (entries_of all) same,
      subst (λ (p : List Routine × Local). StandsIn all targets r (done ++ p.0) p.1 block owner new) (λ i. (same i, last i)) h.stands.stands,
      h.visits,
      subst (λ (rs : List Routine). Notes all rs old new) same h.notes,
    )
