-- The forward routine that waits for a heading, also as more is numbered: lemmas.
use Rattle.std.proofs.Common.{◌≡◌, ◌≤◌, ℕ, List, length, Option, Some, None, refl, ap, sym, ◌∙◌, subst, arith}
use Rattle.std.specs.Option.{is_some}
use Rattle.pc_scope.specs.Headings.{Heading, any_pairs}
use Rattle.pc_rules.specs.RoutineList.{Forwarded, forwarded_for}
use Rattle.pc_rules.specs.Meanings.{Meaning}
use Rattle.pc_growth.specs.Grows.{Begins, Grows}
use Rattle.pc_growth.specs.GrowsLaws.{get_or-begins, less-begins, length-begins}
use Rattle.pc_places.specs.ParametersLaws.{ShowsParameters-grows, AreNamed-grows, HaveNames-grows}
use Rattle.pc_places.specs.Places.{known}
use Rattle.pc_types.specs.Table.{nobody}
use Rattle.pc_places.specs.declared.tables.Tables.{Tables}
use Rattle.pc_routines.specs.Heads.{ShowsHead, found_for, found_at}
use Rattle.pc_routines.specs.KeyLaws.{found_for-grows, found_at-is}
use Rattle.pc_routines.specs.Waits.{ShowsForward, ShowsForwarded, waiting_at, Waits}
use Rattle.pc_routines.specs.declared.forward.Forward.{Forward}
use Rattle.pc_routines.specs.declared.head.RoutineHead.{RoutineHead}

-- ---- the routine that a heading is the later declaration of

-- it is found by numbers
pub found-shown : (t : Tables) (w : List ((ℕ × ℕ) × Option Forward)) (x : RoutineHead) (h : Heading) (ws : List Heading) (fs : List Forwarded) → ShowsHead t.names.texts x h → Waits t w ws fs →
    ShowsForwarded t (found_at (waiting_at w) x.name x.is_function) (forwarded_for h fs)
found-shown t w x h ws fs shows s =
    subst (λ (o : Option Forward). ShowsForwarded t o (forwarded_for h fs))
    (sym (ap (found_at (waiting_at w) x.name) shows.side ∙ found_at-is (waiting_at w) t.names.texts x.name h shows.name)) (s.shows h)

-- there is one where one waits
pub found-waits : (t : Tables) (w : List ((ℕ × ℕ) × Option Forward)) (x : RoutineHead) (h : Heading) (ws : List Heading) (fs : List Forwarded) → ShowsHead t.names.texts x h → Waits t w ws fs →
    is_some (found_at (waiting_at w) x.name x.is_function) ≡ any_pairs h ws
found-waits t w x h ws fs shows s = both (found_at (waiting_at w) x.name x.is_function) (forwarded_for h fs) (found-shown t w x h ws fs shows s) ∙ s.waits h
  where
    both : (o : Option Forward) (p : Option Forwarded) → ShowsForwarded t o p → is_some o ≡ is_some p
    both None None e = refl
    both (Some a) (Some b) e = refl
    both None (Some b) e = absurd e
    both (Some a) None e = absurd e

-- ---- as more is numbered

pub ShowsForward-grows : (old new : Tables) (f : Forward) (key : Option (List (List ℕ))) (ps : List (List ℕ × Meaning)) → Grows (known old) (known new) →
    Begins old.declarations.items new.declarations.items → ShowsForward old f key ps → ShowsForward new f key ps
ShowsForward-grows old new f key ps g d s = record {
  key = s.key;
  owner = λ k e. get_or-begins (known old).table.owners (known new).table.owners f.owner.0 nobody g.owners s.there ∙ s.owner k e;
  there = less-begins (known old).table.owners (known new).table.owners f.owner.0 g.owners s.there;
  parameters = ShowsParameters-grows (known old) (known new) old.declarations.items new.declarations.items f.parameters.items ps g d s.parameters;
  named = AreNamed-grows (length old.names.texts) (length new.names.texts) f.parameters.items (length-begins old.names.texts new.names.texts g.names) s.named;
  have_names = HaveNames-grows old.declarations.items new.declarations.items f.parameters.items d s.have_names;
}

pub Waits-grows : (old new : Tables) (w : List ((ℕ × ℕ) × Option Forward)) (ws : List Heading) (fs : List Forwarded) → Grows (known old) (known new) →
    Begins old.declarations.items new.declarations.items → Waits old w ws fs → Waits new w ws fs
Waits-grows old new w ws fs g d s = record {
  shows = λ h. subst (λ (o : Option Forward). ShowsForwarded new o (forwarded_for h fs)) (sym (found_for-grows (waiting_at w) old.names.texts new.names.texts h g.names s.within))
      (by (found_for (waiting_at w) old.names.texts h) (forwarded_for h fs) (s.shows h));
  waits = s.waits;
  within = λ i t less. let longer : length old.names.texts ≤ length new.names.texts = length-begins old.names.texts new.names.texts g.names in s.within i t (omega (arith, less, longer));
}
  where
    by : (o : Option Forward) (p : Option Forwarded) → ShowsForwarded old o p → ShowsForwarded new o p
    by None None e = tt
    by (Some a) (Some b) e = ShowsForward-grows old new a b.key b.parameters g d e
    by None (Some b) e = absurd e
    by (Some a) None e = absurd e
