-- A routine as an owner: its key and its number are those of the rules, lemmas.
use Rattle.std.proofs.Common.{◌≡◌, ◌<◌, ℕ, Bool, true, false, not, ◌&&◌, ◌==◌, if◌then◌else◌, List, [], ◌∷◌, ◌++◌, length, get_or, Option, Some, None, refl, ap, sym, ◌∙◌, arith, true≢false}
use Rattle.std.proofs.lemmas.Bool.Decides.{nat_tests}
use Rattle.std.specs.Option.{is_some, option_and_then, option_map}
use Rattle.std.specs.Prelude.{nat_lt}
use Rattle.pc_syntax.specs.Words.{is_among}
use Rattle.pc_types.specs.Table.{nobody}
use Rattle.pc_types.specs.declared.form.OwnerId.{OwnerId}
use Rattle.pc_names.specs.TableLaws.{slice_get-number_of}
use Rattle.pc_names.specs.declared.id.NameId.{NameId}
use Rattle.pc_rules.specs.Declarations.{heading_here, is_later_declaration}
use Rattle.pc_rules.specs.Meanings.{Local}
use Rattle.pc_rules.specs.RoutineList.{Forwarded, forwarded_for, owner_of, extended, key_of}
use Rattle.pc_places.specs.Places.{known}
use Rattle.pc_places.specs.declared.tables.Tables.{Tables}
use Rattle.pc_routines.specs.ForwardedLaws.{found-shown}
use Rattle.pc_routines.specs.Heads.{ShowsHeadName, ShowsHead, found_at}
use Rattle.pc_routines.specs.HeadsLaws.{number-shown}
use Rattle.pc_routines.specs.Waits.{ShowsForwarded, waiting_at, Waits}
use Rattle.pc_routines.specs.declared.forward.Forward.{Forward}
use Rattle.pc_routines.specs.declared.head.RoutineHead.{RoutineHead}
use Rattle.pc_routine_sites.specs.Identities.{waiting_key, child_key, own_key, taken_at, taken_owner}

-- ---- its key

-- whether a routine is the first of its name where it stands
abbrev pub is_first_here : Local → Bool
is_first_here l = not (is_later_declaration l) && not (length (heading_here l).name == 0) && not (is_among l.passed (heading_here l).name)

-- the key that it has there
abbrev pub key_in : Local → List Forwarded → Option (List (List ℕ)) → Option (List (List ℕ))
key_in l fs key =
    if is_later_declaration l then option_and_then (λ (f : Forwarded). f.key) (forwarded_for (heading_here l) fs)
    else (if is_first_here l then extended key (heading_here l).name else None)

forward-key : (t : Tables) (o : Option Forward) (p : Option Forwarded) → ShowsForwarded t o p → waiting_key o ≡ option_and_then (λ (f : Forwarded). f.key) p
forward-key t None None e = refl
forward-key t (Some f) (Some g) e = e.key
forward-key t None (Some g) e = absurd e
forward-key t (Some f) None e = absurd e

child-key : (names : List (List ℕ)) (key : Option (List (List ℕ))) (name : Option NameId) (n : List ℕ) → ShowsHeadName names name n → (length n == 0) ≡ false → child_key names key name ≡ extended key n
child-key names None name n shows some = refl
child-key names (Some k) None n shows some = absurd (true≢false (sym (ap (λ (q : List ℕ). length q == 0) shows) ∙ some))
child-key names (Some k) (Some i) n shows some = ap (option_map (λ (q : List ℕ). k ++ q ∷ [])) (slice_get-number_of names n i.0 (number-shown names i n shows))

first-named : (a b c : Bool) → (not a && not b && not c) ≡ true → b ≡ false
first-named true b c e = cc
first-named false true c e = cc
first-named false false c e = refl

first-key : (names : List (List ℕ)) (key : Option (List (List ℕ))) (name : Option NameId) (l : Local) → ShowsHeadName names name (heading_here l).name → (b : Bool) → is_first_here l ≡ b →
    (if b then child_key names key name else None) ≡ (if b then extended key (heading_here l).name else None)
first-key names key name l shows false e = refl
first-key names key name l shows true e =
    child-key names key name (heading_here l).name shows
    (first-named (is_later_declaration l) (length (heading_here l).name == 0) (is_among l.passed (heading_here l).name) e)

pub own-key : (t : Tables) (w : List ((ℕ × ℕ) × Option Forward)) (x : RoutineHead) (l : Local) (fs : List Forwarded) (key : Option (List (List ℕ))) (later first : Bool) →
    ShowsHead t.names.texts x (heading_here l) → Waits t w l.waiting fs → later ≡ is_later_declaration l → first ≡ is_first_here l → own_key t.names.texts w key x later first ≡ key_in l fs key
own-key t w x l fs key later first shows waits late is =
    (λ i. own_key t.names.texts w key x (late i) (is i))
    ∙ (λ i. if is_later_declaration l then forward-key t (found_at (waiting_at w) x.name x.is_function) (forwarded_for (heading_here l) fs)
    (found-shown t w x (heading_here l) l.waiting fs shows waits) i
    else first-key t.names.texts key x.name l shows.name (is_first_here l) refl i)

-- a routine without a name has none
pub key-named : (names : List (List ℕ)) (w : List ((ℕ × ℕ) × Option Forward)) (key : Option (List (List ℕ))) (x : RoutineHead) (later first : Bool) → x.name ≡ None →
    own_key names w key x later first ≡ None
key-named names w key x later first e = ap (λ (o : Option NameId). if later then waiting_key (found_at (waiting_at w) o x.is_function) else (if first then child_key names key o else None)) e ∙ by later first key
  where
    by : (b c : Bool) (k : Option (List (List ℕ))) → (if b then waiting_key (found_at (waiting_at w) None x.is_function) else (if c then child_key names k None else None)) ≡ None
    by true c k = refl
    by false true None = refl
    by false true (Some k) = refl
    by false false k = refl

pub key_of-owner : (o : Option (List (List ℕ))) (p : List ℕ) → key_of (owner_of o p) ≡ o
key_of-owner None p = refl
key_of-owner (Some k) p = refl

-- ---- its number

module _ (t : Tables) (p : List ℕ) where
  abbrev pub owner_count : ℕ
  owner_count = length (known t).table.owners

  taken-there : (i d : OwnerId) (b : Bool) → (if b then Some i else None) ≡ Some d → i ≡ d
  taken-there i d true e = cc
  taken-there i d false e = cc

  taken-forward : (f : Forward) (g : Forwarded) (d : OwnerId) (o : Option (List (List ℕ))) → ShowsForwarded t (Some f) (Some g) → f.key ≡ o → (if is_some o then taken_at owner_count f.owner else None) ≡ Some d →
      get_or (known t).table.owners d.0 nobody ≡ owner_of g.key p
  taken-forward f g d None shows is e = cc
  taken-forward f g d (Some k) shows is e =
      let key : g.key ≡ Some k = sym shows.key ∙ is in
      ap (λ (i : OwnerId). get_or (known t).table.owners i.0 nobody) (sym (taken-there f.owner d (nat_lt f.owner.0 owner_count) e)) ∙ shows.owner k key ∙ sym (ap (λ (o : Option (List (List ℕ))). owner_of o p) key)

  -- the number that is taken is that of the routine
  pub taken-number : (later : Bool) (o : Option Forward) (q : Option Forwarded) (rest : Option (List (List ℕ))) (d : OwnerId) → ShowsForwarded t o q → taken_owner later owner_count o ≡ Some d →
      get_or (known t).table.owners d.0 nobody ≡ owner_of (if later then option_and_then (λ (f : Forwarded). f.key) q else rest) p
  taken-number false o q rest d shows e = cc
  taken-number true None q rest d shows e = cc
  taken-number true (Some f) None rest d shows e = absurd shows
  taken-number true (Some f) (Some g) rest d shows e = taken-forward f g d f.key shows refl e

  none-taken : (f : Forward) (o : Option (List (List ℕ))) → is_some o ≡ true → f.owner.0 < owner_count → (if is_some o then taken_at owner_count f.owner else None) ≡ None → ⊥
  none-taken f None some there e = cc
  none-taken f (Some k) some there e = let is : nat_lt f.owner.0 owner_count ≡ true = grind (arith, nat_tests) in no (nat_lt f.owner.0 owner_count) is e
    where
      no : (b : Bool) → b ≡ true → (if b then Some f.owner else None) ≡ None → ⊥
      no true e g = cc
      no false e g = cc

  -- the number of a forward routine with a key is taken
  pub some-taken : (later : Bool) (o : Option Forward) (q : Option Forwarded) (rest : Option (List (List ℕ))) → ShowsForwarded t o q →
      (later && is_some (if later then option_and_then (λ (f : Forwarded). f.key) q else rest)) ≡ true → taken_owner later owner_count o ≡ None → ⊥
  some-taken false o q rest shows some e = cc
  some-taken true None None rest shows some e = cc
  some-taken true (Some f) (Some g) rest shows some e = none-taken f f.key (ap (λ (o : Option (List (List ℕ))). is_some o) shows.key ∙ some) shows.there e
  some-taken true None (Some g) rest shows some e = absurd shows
  some-taken true (Some f) None rest shows some e = absurd shows
