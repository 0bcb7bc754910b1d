-- The forward routines that wait, behind one more routine: lemmas.
use Rattle.std.proofs.Common.{◌≡◌, ◌≤◌, ℕ, Bool, true, false, ◌||◌, List, [], ◌∷◌, ◌++◌, length, Option, Some, None, refl, ap, sym, ◌∙◌, subst, if◌then◌else◌}
use Rattle.std.specs.Option.{is_some, option_and_then, option_or}
use Rattle.pc_names.specs.Numbers.{number_of}
use Rattle.pc_names.specs.declared.id.NameId.{NameId}
use Rattle.pc_scope.specs.Headings.{Heading, pairs, any_pairs, without_pairs}
use Rattle.pc_rules.specs.RoutineList.{Forwarded, forwarded_for, without_forwarded, forwarded_by, key_of}
use Rattle.pc_rules.specs.Declarations.{heading_here}
use Rattle.pc_rules.specs.Meanings.{Local}
use Rattle.pc_rules.specs.Places.{past_routine}
use Rattle.pc_rules.specs.Routines.{Routine, parameters_of}
use Rattle.pc_places.specs.declared.tables.Tables.{Tables}
use Rattle.pc_routines.specs.Heads.{ShowsHeadName, ShowsHead, side, numbered, found_for, found_at}
use Rattle.pc_routines.specs.HeadsLaws.{number-shown}
use Rattle.pc_routines.specs.KeyLaws.{found_for-put, found_for-paired, found_at-is, within-put}
use Rattle.pc_routines.specs.Waits.{ShowsForward, ShowsForwarded, waiting_at, is_key, settled, Gives, Waits}
use Rattle.pc_routines.specs.declared.forward.Forward.{Forward}
use Rattle.pc_routines.specs.declared.head.RoutineHead.{RoutineHead}
use Rattle.pc_routines.specs.PairsLaws.{pairs-none, for-more, for-without, any-without}

-- ---- the table

-- one thing was put at the key of a heading, if it has a name
found-put : (t : Tables) (old new : List ((ℕ × ℕ) × Option Forward)) (x : RoutineHead) (g h : Heading) (v : Option Forward) →
    ((i s : ℕ) → waiting_at new i s ≡ (if is_key x.name x.is_function i s then v else waiting_at old i s)) → ShowsHead t.names.texts x g →
    found_for (waiting_at new) t.names.texts h ≡ (if pairs h g then v else found_for (waiting_at old) t.names.texts h)
found-put t old new x g h v put shows = by x.name g.name refl refl shows.name
  where
    by : (y : Option NameId) (n : List ℕ) → x.name ≡ y → g.name ≡ n → ShowsHeadName t.names.texts y n →
        found_for (waiting_at new) t.names.texts h ≡ (if pairs h g then v else found_for (waiting_at old) t.names.texts h)
    by None n named is e =
        same (numbered t.names.texts h.name) ∙ sym (ap (λ (b : Bool). if b then v else found_for (waiting_at old) t.names.texts h) (pairs-none h g (is ∙ e)))
      where
        same : (o : Option ℕ) → option_and_then (λ i. waiting_at new i (side h.is_function)) o ≡ option_and_then (λ i. waiting_at old i (side h.is_function)) o
        same None = refl
        same (Some i) =
            put i (side h.is_function) ∙ ap (λ (y : Option NameId). if is_key y x.is_function i (side h.is_function) then v else waiting_at old i (side h.is_function)) named
    by (Some j) n named is e =
        found_for-put (waiting_at old) (waiting_at new) v t.names.texts g h j.0
        (λ i s. put i s ∙ (λ k. if is_key (named k) (shows.side k) i s then v else waiting_at old i s))
        (ap (number_of t.names.texts) is ∙ number-shown t.names.texts j n e)

within-after : (t : Tables) (old new : List ((ℕ × ℕ) × Option Forward)) (x : RoutineHead) (g : Heading) (v : Option Forward) →
    ((i s : ℕ) → waiting_at new i s ≡ (if is_key x.name x.is_function i s then v else waiting_at old i s)) → ShowsHead t.names.texts x g →
    ((i s : ℕ) → length t.names.texts ≤ i → waiting_at old i s ≡ None) → (i s : ℕ) → length t.names.texts ≤ i → waiting_at new i s ≡ None
within-after t old new x g v put shows within = by x.name g.name refl shows.name
  where
    by : (y : Option NameId) (n : List ℕ) → x.name ≡ y → ShowsHeadName t.names.texts y n → (i s : ℕ) → length t.names.texts ≤ i → waiting_at new i s ≡ None
    by None n named e = λ i s far. put i s ∙ ap (λ (y : Option NameId). if is_key y x.is_function i s then v else waiting_at old i s) named ∙ within i s far
    by (Some j) n named e =
        within-put (waiting_at old) (waiting_at new) v t.names.texts n j.0 (side x.is_function)
        (λ i s. put i s ∙ ap (λ (y : Option NameId). if is_key y x.is_function i s then v else waiting_at old i s) named) (number-shown t.names.texts j n e) within

-- what stands at a key, where one thing was put at it
pub inside-put : (b : Bool) (slot : Option Forward) (o : Option (Option Forward)) → option_and_then (λ (x : Option Forward). x) (if b then Some slot else o) ≡ (if b then slot else option_and_then (λ (x : Option Forward). x) o)
inside-put true slot o = refl
inside-put false slot o = refl

-- none waits before the first routine
pub Waits-none : (t : Tables) → Waits t [] [] []
Waits-none t = record { shows = λ h. none h (numbered t.names.texts h.name); waits = λ h. refl; within = λ i s less. refl }
  where
    none : (h : Heading) (o : Option ℕ) → ShowsForwarded t (option_and_then (λ i. waiting_at [] i (side h.is_function)) o) None
    none h None = tt
    none h (Some i) = tt

-- behind a routine that is no forward one
pub Waits-ended : (t : Tables) (old new : List ((ℕ × ℕ) × Option Forward)) (x : RoutineHead) (g : Heading) (ws : List Heading) (fs : List Forwarded) →
    ((i s : ℕ) → waiting_at new i s ≡ (if is_key x.name x.is_function i s then None else waiting_at old i s)) → ShowsHead t.names.texts x g → Waits t old ws fs →
    Waits t new (without_pairs g ws) (without_forwarded g fs)
Waits-ended t old new x g ws fs put shows w = record {
  shows = λ h. subst (λ (o : Option Forwarded). ShowsForwarded t (found_for (waiting_at new) t.names.texts h) o) (sym (for-without h g fs))
      (subst (λ (o : Option Forward). ShowsForwarded t o (if pairs h g then None else forwarded_for h fs)) (sym (found-put t old new x g h None put shows))
      (elim (pairs h g) as (λ (b : Bool). ShowsForwarded t (if b then None else found_for (waiting_at old) t.names.texts h) (if b then None else forwarded_for h fs)) [ true ↦ tt | false ↦ w.shows h ]));
  waits = λ h. ap (λ (o : Option Forwarded). is_some o) (for-without h g fs) ∙ some (pairs h g) h ∙ sym (any-without h g ws);
  within = within-after t old new x g None put shows w.within;
}
  where
    some : (b : Bool) (h : Heading) → is_some (if b then None else forwarded_for h fs) ≡ (if b then false else any_pairs h ws)
    some true h = refl
    some false h = w.waits h

-- behind a forward one: it waits where none did
pub Waits-forward : (t : Tables) (old new : List ((ℕ × ℕ) × Option Forward)) (x : RoutineHead) (g : Heading) (ws : List Heading) (fs : List Forwarded) (f : Forward) (r : Forwarded) →
    ((i s : ℕ) → waiting_at new i s ≡ (if is_key x.name x.is_function i s then option_or (found_at (waiting_at old) x.name x.is_function) (Some f) else waiting_at old i s)) →
    ShowsHead t.names.texts x g → r.heading ≡ g → ShowsForward t f r.key r.parameters → Waits t old ws fs → Waits t new (g ∷ ws) (fs ++ r ∷ [])
Waits-forward t old new x g ws fs f r put shows is given w = record {
  shows = λ h. subst (λ (o : Option Forwarded). ShowsForwarded t (found_for (waiting_at new) t.names.texts h) o) (sym (more h))
      (subst (λ (o : Option Forward). ShowsForwarded t o (option_or (forwarded_for h fs) (if pairs h g then Some r else None))) (sym (found h))
      (by (pairs h g) (found_for (waiting_at old) t.names.texts h) (forwarded_for h fs) (w.shows h)));
  waits = λ h. ap (λ (o : Option Forwarded). is_some o) (more h) ∙ some (pairs h g) (forwarded_for h fs) ∙ ap (λ (b : Bool). pairs h g || b) (w.waits h);
  within = within-after t old new x g v put shows w.within;
}
  where
    v : Option Forward
    v = option_or (found_at (waiting_at old) x.name x.is_function) (Some f)

    more : (h : Heading) → forwarded_for h (fs ++ r ∷ []) ≡ option_or (forwarded_for h fs) (if pairs h g then Some r else None)
    more h = for-more h fs r ∙ ap (λ (k : Heading). option_or (forwarded_for h fs) (if pairs h k then Some r else None)) is

    at-key : (h : Heading) → pairs h g ≡ true → found_at (waiting_at old) x.name x.is_function ≡ found_for (waiting_at old) t.names.texts h
    at-key h e = ap (found_at (waiting_at old) x.name) shows.side ∙ found_at-is (waiting_at old) t.names.texts x.name g shows.name ∙ sym (found_for-paired (waiting_at old) t.names.texts h g e)

    where-so : (h : Heading) (b : Bool) → pairs h g ≡ b → (if b then v else found_for (waiting_at old) t.names.texts h)
        ≡ (if b then option_or (found_for (waiting_at old) t.names.texts h) (Some f) else found_for (waiting_at old) t.names.texts h)
    where-so h true e = ap (λ (o : Option Forward). option_or o (Some f)) (at-key h e)
    where-so h false e = refl

    found : (h : Heading) → found_for (waiting_at new) t.names.texts h ≡ (if pairs h g then option_or (found_for (waiting_at old) t.names.texts h) (Some f) else found_for (waiting_at old) t.names.texts h)
    found h = found-put t old new x g h v put shows ∙ where-so h (pairs h g) refl

    by : (b : Bool) (o : Option Forward) (p : Option Forwarded) → ShowsForwarded t o p → ShowsForwarded t (if b then option_or o (Some f) else o) (option_or p (if b then Some r else None))
    by true None None s = given
    by true (Some a) (Some c) s = s
    by true None (Some c) s = absurd s
    by true (Some a) None s = absurd s
    by false None None s = s
    by false (Some a) (Some c) s = s
    by false None (Some c) s = absurd s
    by false (Some a) None s = absurd s

    some : (b : Bool) (p : Option Forwarded) → is_some (option_or p (if b then Some r else None)) ≡ (b || is_some p)
    some true None = refl
    some true (Some c) = refl
    some false None = refl
    some false (Some c) = refl

-- what a routine leaves behind it
abbrev left : Local → Routine → Forwarded
left l r = record { heading = heading_here l; key = key_of r.owner; parameters = parameters_of r }

-- behind a routine
pub Waits-pass : (t : Tables) (old new : List ((ℕ × ℕ) × Option Forward)) (x : RoutineHead) (forward : Option Forward) (l : Local) (r : Routine) (fs : List Forwarded) →
    ((i s : ℕ) → waiting_at new i s ≡ (if is_key x.name x.is_function i s then settled forward (found_at (waiting_at old) x.name x.is_function) else waiting_at old i s)) →
    ShowsHead t.names.texts x (heading_here l) → Gives t forward r (heading_here l).is_forward → Waits t old l.waiting fs → Waits t new (past_routine l).waiting (forwarded_by l r fs)
Waits-pass t old new x None l r fs put shows gives w =
    subst (λ (b : Bool). Waits t new (if b then heading_here l ∷ l.waiting else without_pairs (heading_here l) l.waiting) (if b then fs ++ left l r ∷ [] else without_forwarded (heading_here l) fs)) (sym gives)
    (Waits-ended t old new x (heading_here l) l.waiting fs put shows w)
Waits-pass t old new x (Some f) l r fs put shows gives w =
    subst (λ (b : Bool). Waits t new (if b then heading_here l ∷ l.waiting else without_pairs (heading_here l) l.waiting) (if b then fs ++ left l r ∷ [] else without_forwarded (heading_here l) fs)) (sym gives.0)
    (Waits-forward t old new x (heading_here l) l.waiting fs f (left l r) put shows refl gives.1 w)
