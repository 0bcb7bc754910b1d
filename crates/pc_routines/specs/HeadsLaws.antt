-- Headings by numbers, from the last to the first: lemmas.
use Rattle.std.proofs.Common.{◌≡◌, ◌≤◌, ◌<◌, ◌-◌, suc, drop, slice_get, ℕ, zero, Bool, true, false, not, ◌&&◌, ◌||◌, nat_eq, List, [], ◌∷◌, length, Option, Some, None, ◌⊎◌, inl, inr, refl, ap, sym, ◌∙◌, subst, if◌then◌else◌, arith}
use Rattle.std.specs.Option.{is_some, option_and_then}
use Rattle.pc_names.specs.Numbers.{number_of}
use Rattle.pc_names.specs.declared.id.NameId.{NameId}
use Rattle.std.proofs.Math.Seq.{drop-cons}
use Rattle.std.proofs.lemmas.Option.{get_or_from_slice_get}
use Rattle.pc_syntax.specs.Plain.{Plain, forest_of}
use Rattle.pc_scope.specs.Headings.{Heading, pairs, has_later, heading_of, headings_in}
use Rattle.pc_rules.specs.Declarations.{head_or, rest_of}
use Rattle.pc_growth.specs.Grows.{Begins}
use Rattle.pc_growth.specs.GrowsLaws.{length-begins}
use Rattle.pc_routines.specs.Heads.{ShowsHeadName, ShowsHead, ShowsHeads, ShowsFirst, side, numbered, found_for, found_at}
use Rattle.pc_routines.specs.KeyLaws.{ShowsHeadName-grows, found_for-put, found_for-grows, found_at-is, within-put}
use Rattle.pc_routines.specs.PairsLaws.{pairs-none}
use Rattle.pc_routines.specs.Later.{later_at, HasLater}
use Rattle.pc_routines.specs.declared.head.RoutineHead.{RoutineHead}

-- ---- as more names get numbers

pub ShowsHead-grows : (ms ns : List (List ℕ)) (x : RoutineHead) (h : Heading) → Begins ms ns → ShowsHead ms x h → ShowsHead ns x h
ShowsHead-grows ms ns x h b s = record { name = ShowsHeadName-grows ms ns x.name h.name b s.name; side = s.side; forward = s.forward }

pub ShowsHeads-grows : (ms ns : List (List ℕ)) (xs : List RoutineHead) (hs : List Heading) → Begins ms ns → ShowsHeads ms xs hs → ShowsHeads ns xs hs
ShowsHeads-grows ms ns [] [] b s = tt
ShowsHeads-grows ms ns (x ∷ xs) (h ∷ hs) b s = (ShowsHead-grows ms ns x h b s.0, s.1, ShowsHeads-grows ms ns xs hs b s.2)
ShowsHeads-grows ms ns [] (h ∷ hs) b s = absurd s
ShowsHeads-grows ms ns (x ∷ xs) [] b s = absurd s

pub HasLater-grows : (ms ns : List (List ℕ)) (table : List ((ℕ × ℕ) × Bool)) (hs : List Heading) → Begins ms ns → HasLater ms table hs → HasLater ns table hs
HasLater-grows ms ns table hs b s = record {
  has = λ h. ap (λ (o : Option Bool). is_some o) (found_for-grows (later_at table) ms ns h b s.within) ∙ s.has h;
  within = λ i t less. let longer : length ms ≤ length ns = length-begins ms ns b in s.within i t (omega (arith, less, longer));
}

-- ---- one heading further to the front

-- none is behind the last one
pub HasLater-none : (names : List (List ℕ)) → HasLater names [] []
HasLater-none names = record { has = λ h. none h; within = λ i s less. refl }
  where
    empty : (o : Option ℕ) (h : Heading) → is_some (option_and_then (λ i. later_at [] i (side h.is_function)) o) ≡ false
    empty None h = refl
    empty (Some i) h = refl

    none : (h : Heading) → is_some (found_for (later_at []) names h) ≡ false
    none h = empty (numbered names h.name) h

put-one : (b p f : Bool) (o : Option Bool) (rest : Bool) → is_some o ≡ rest → f ≡ false → is_some (if p then Some true else o) ≡ ((p && not f) || rest)
put-one b true true o rest e f = cc
put-one b true false o rest e f = refl
put-one b false f o rest e g = e

-- one that is no forward one was put into the table
pub HasLater-put : (names : List (List ℕ)) (old new : List ((ℕ × ℕ) × Bool)) (j : ℕ) (g : Heading) (hs : List Heading) →
    ((i s : ℕ) → later_at new i s ≡ (if nat_eq j i && nat_eq (side g.is_function) s then Some true else later_at old i s)) → number_of names g.name ≡ Some j → g.is_forward ≡ false →
    HasLater names old hs → HasLater names new (g ∷ hs)
HasLater-put names old new j g hs put is plain s = record {
  has = λ h. ap (λ (o : Option Bool). is_some o) (found_for-put (later_at old) (later_at new) (Some true) names g h j put is) ∙ put-one true (pairs h g) g.is_forward (found_for (later_at old) names h) (has_later h hs) (s.has h) plain;
  within = within-put (later_at old) (later_at new) (Some true) names g.name j (side g.is_function) put is s.within;
}

skipped : (p f rest : Bool) → (p ≡ false) ⊎ (f ≡ true) → rest ≡ ((p && not f) || rest)
skipped true true rest e = refl
skipped true false rest (inl e) = cc
skipped true false rest (inr e) = cc
skipped false f rest e = refl

-- a forward one is no later declaration
pub HasLater-forward : (names : List (List ℕ)) (table : List ((ℕ × ℕ) × Bool)) (g : Heading) (hs : List Heading) → g.is_forward ≡ true → HasLater names table hs → HasLater names table (g ∷ hs)
HasLater-forward names table g hs e s = record { has = λ h. s.has h ∙ skipped (pairs h g) g.is_forward (has_later h hs) (inr e); within = s.within }

-- nor is one without a name
pub HasLater-unnamed : (names : List (List ℕ)) (table : List ((ℕ × ℕ) × Bool)) (g : Heading) (hs : List Heading) → g.name ≡ [] → HasLater names table hs → HasLater names table (g ∷ hs)
HasLater-unnamed names table g hs e s = record { has = λ h. s.has h ∙ skipped (pairs h g) g.is_forward (has_later h hs) (inl (pairs-none h g e)); within = s.within }

-- the number of a name by numbers
pub number-shown : (names : List (List ℕ)) (i : NameId) (n : List ℕ) → ShowsHeadName names (Some i) n → number_of names n ≡ Some i.0
number-shown names i [] e = absurd e
number-shown names i (c ∷ cs) e = e

-- the same of one by numbers that is no forward one
pub HasLater-pass : (names : List (List ℕ)) (old new : List ((ℕ × ℕ) × Bool)) (x : RoutineHead) (h : Heading) (hs : List Heading) (i : NameId) → x.name ≡ Some i → x.is_forward ≡ false →
    ((k s : ℕ) → later_at new k s ≡ (if nat_eq i.0 k && nat_eq (side x.is_function) s then Some true else later_at old k s)) → ShowsHead names x h → HasLater names old hs → HasLater names new (h ∷ hs)
HasLater-pass names old new x h hs i named plain put shows s =
    HasLater-put names old new i.0 h hs (λ k t. put k t ∙ ap (λ (b : Bool). if nat_eq i.0 k && nat_eq (side b) t then Some true else later_at old k t) shows.side)
    (number-shown names i h.name (subst (λ (o : Option NameId). ShowsHeadName names o h.name) named shows.name)) (sym shows.forward ∙ plain) s

-- whether a later one stands behind, by numbers
pub has-later : (names : List (List ℕ)) (table : List ((ℕ × ℕ) × Bool)) (name : Option NameId) (h : Heading) (hs : List Heading) → ShowsHeadName names name h.name → HasLater names table hs →
    is_some (found_at (later_at table) name h.is_function) ≡ has_later h hs
has-later names table name h hs shows s = ap (λ (o : Option Bool). is_some o) (found_at-is (later_at table) names name h shows) ∙ s.has h

-- one more heading to the front
pub heads-more : (old new : List (List ℕ)) (table : List ((ℕ × ℕ) × Bool)) (x : RoutineHead) (xs : List RoutineHead) (h : Heading) (hs : List Heading) → Begins old new → ShowsHead new x h →
    x.has_later ≡ is_some (found_at (later_at table) x.name x.is_function) → HasLater old table hs → ShowsHeads old xs hs → ShowsHeads new (x ∷ xs) (h ∷ hs)
heads-more old new table x xs h hs b shows later s rest = (
  shows,
  later ∙ ap (λ (f : Bool). is_some (found_at (later_at table) x.name f)) shows.side ∙ has-later new table x.name h hs shows.name (HasLater-grows old new table hs b s),
  ShowsHeads-grows old new xs hs b rest,
)

-- the headings behind one of a list
pub headings-drop : (kids : List Plain) (i : ℕ) (t : Plain) → i - 1 < length kids → 0 < i → slice_get kids (i - 1) ≡ Some t →
    headings_in (forest_of (drop (i - 1) kids)) ≡ heading_of t.kind t.kids ∷ headings_in (forest_of (drop i kids))
headings-drop kids i t less some is =
    let next : suc (i - 1) ≡ i = omega (arith, some) in
    ap (λ (ts : List Plain). headings_in (forest_of ts))
    (drop-cons kids (i - 1) t less ∙ (λ k. get_or_from_slice_get kids (i - 1) t t is k ∷ drop (next k) kids))

-- ---- from the first heading to the last

-- the heading with a number
pub ShowsFirst-at : (names : List (List ℕ)) (xs : List RoutineHead) (hs : List Heading) (i : ℕ) (x : RoutineHead) → slice_get xs i ≡ Some x → ShowsHeads names xs hs → ShowsFirst names x (drop i hs)
ShowsFirst-at names [] hs i x e s = cc
ShowsFirst-at names (y ∷ xs) (h ∷ hs) zero x e s = let same : y ≡ x = cc in subst (λ (z : RoutineHead). ShowsFirst names z (h ∷ hs)) same (record { head = s.0; later = s.1 })
ShowsFirst-at names (y ∷ xs) (h ∷ hs) (suc i) x e s = ShowsFirst-at names xs hs i x e s.2
ShowsFirst-at names (y ∷ xs) [] i x e s = absurd s

-- there are as many as routines
pub ShowsHeads-length : (names : List (List ℕ)) (xs : List RoutineHead) (hs : List Heading) → ShowsHeads names xs hs → length xs ≡ length hs
ShowsHeads-length names [] [] s = refl
ShowsHeads-length names (x ∷ xs) (h ∷ hs) s = ap suc (ShowsHeads-length names xs hs s.2)
ShowsHeads-length names [] (h ∷ hs) s = absurd s
ShowsHeads-length names (x ∷ xs) [] s = absurd s

pub ShowsFirst-grows : (ms ns : List (List ℕ)) (x : RoutineHead) (hs : List Heading) → Begins ms ns → ShowsFirst ms x hs → ShowsFirst ns x hs
ShowsFirst-grows ms ns x hs b s = record { head = ShowsHead-grows ms ns x (head_or hs) b s.head; later = s.later }

-- those behind the heading with a number
pub rest-drop : (hs : List Heading) (i : ℕ) → rest_of (drop i hs) ≡ drop (suc i) hs
rest-drop [] zero = refl
rest-drop [] (suc i) = refl
rest-drop (h ∷ hs) zero = refl
rest-drop (h ∷ hs) (suc i) = rest-drop hs i

-- the heading of the routine with a number
pub heading-at : (kids : List Plain) (i : ℕ) (t : Plain) → slice_get kids i ≡ Some t → head_or (drop i (headings_in (forest_of kids))) ≡ heading_of t.kind t.kids
heading-at [] i t e = cc
heading-at (k ∷ kids) zero t e = let same : k ≡ t = cc in ap (λ (r : Plain). heading_of r.kind r.kids) same
heading-at (k ∷ kids) (suc i) t e = heading-at kids i t e
