-- Tables of the owners of routines, and the owners of later declarations.
use Rattle.std.proofs.Common.{◌≡◌, ℕ, ◌<◌, Bool, true, false, nat_eq, nat_lt, List, [], ◌∷◌, ◌++◌, length, get_or, ◌⊎◌, refl, ap, sym, ◌∙◌, subst, arith, inl, inr, length-append}
use Rattle.std.proofs.lemmas.Bool.{true≢false, false_from_ne_true}
use Rattle.std.proofs.lemmas.Bool.Decides.{nat_tests}
use Rattle.std.proofs.lemmas.List.{get_or_append_left, get_or_at}
use Rattle.pc_syntax.specs.Plain.{Plain}
use Rattle.pc_types.specs.Sameness.{same_owner}
use Rattle.pc_types.specs.Shapes.{Owner, Keyed, Placed}
use Rattle.pc_types.specs.Table.{nobody}
use Rattle.pc_rules.specs.RoutineList.{routines_of}
use Rattle.pc_rules.specs.Routines.{Routine}
use Rattle.pc_needs.specs.Keys.{IsForwardOf}
use Rattle.pc_needs.specs.Unaffected.{IsOneOf}
use Rattle.pc_needs.proofs.ForwardLemmas.{has-forward}
use Rattle.pc_needs.proofs.KeyLemmas.{IsNamedByKey, is_keyed}
use Rattle.pc_needs.proofs.Owners.{same_owner-equal, same_owner-self}
use Rattle.pc_needs.proofs.PlaceLemmas.{one-front, one-back}
use Rattle.pc_sightings.specs.TouchedLog.{AreApart}
use Rattle.pc_block_laws.specs.Owners.{BeginsOwner, OwnersAmong, GrownOwnersLaw, StayingOwnersLaw, LaterOwnerLaw, EachOwnerLaw, HasOwner, OwnersLaw}
use Rattle.pc_block_laws.proofs.FollowLemmas.{AllFollow}
use Rattle.pc_block_laws.proofs.FollowRoutines.{routines-follow}
use Rattle.pc_block_laws.proofs.OwnersLemmas.{follow-behind, one-split, among, named, owner-fresh}

-- ---- tables of owners

turned : (a b : Owner) → same_owner a b ≡ false → same_owner b a ≡ false
turned a b e = false_from_ne_true (same_owner b a) (λ s. true≢false (sym (subst (λ (x : Owner). same_owner a x ≡ true) (sym (same_owner-equal b a s)) (same_owner-self a)) ∙ e))

-- one more, that is none of those before
apart-more : (owners : List Owner) (o : Owner) → AreApart owners → ((i : ℕ) → i < length owners → same_owner (get_or owners i nobody) o ≡ false) → AreApart (owners ++ o ∷ [])
apart-more owners o apart new i j below under = by (nat_lt i (length owners)) (nat_lt j (length owners)) refl refl where
  front : (k : ℕ) → k < length owners → get_or (owners ++ o ∷ []) k nobody ≡ get_or owners k nobody
  front k h = get_or_append_left owners (o ∷ []) nobody k h

  last : (k : ℕ) → length owners ≡ k → get_or (owners ++ o ∷ []) k nobody ≡ o
  last k h = get_or_at owners o [] nobody k h

  by : (b c : Bool) → nat_lt i (length owners) ≡ b → nat_lt j (length owners) ≡ c → same_owner (get_or (owners ++ o ∷ []) i nobody) (get_or (owners ++ o ∷ []) j nobody) ≡ nat_eq i j
  by true true e f =
      let h : i < length owners = grind (arith, nat_tests) in
      let g : j < length owners = grind (arith, nat_tests) in
      (λ x. same_owner (front i h x) (front j g x)) ∙ apart i j h g
  by true false e f =
      let h : i < length owners = grind (arith, nat_tests) in
      let n = length-append owners (o ∷ []) in
      let g : length owners ≡ j = grind (arith, nat_tests) in
      let other : nat_eq i j ≡ false = grind (arith, nat_tests) in
      (λ x. same_owner (front i h x) (last j g x)) ∙ new i h ∙ sym other
  by false true e f =
      let g : j < length owners = grind (arith, nat_tests) in
      let n = length-append owners (o ∷ []) in
      let h : length owners ≡ i = grind (arith, nat_tests) in
      let other : nat_eq i j ≡ false = grind (arith, nat_tests) in
      (λ x. same_owner (last i h x) (front j g x)) ∙ turned (get_or owners j nobody) o (new j g) ∙ sym other
  by false false e f =
      let n = length-append owners (o ∷ []) in
      let h : length owners ≡ i = grind (arith, nat_tests) in
      let g : length owners ≡ j = grind (arith, nat_tests) in
      let same : nat_eq i j ≡ true = grind (arith, nat_tests) in
      (λ x. same_owner (last i h x) (last j g x)) ∙ same_owner-self o ∙ sym same

pub owners-stay : StayingOwnersLaw
owners-stay owners before r h i below = let x = h i below in (x.0, one-front before (r ∷ []) x.0 x.1, x.2)

owners-more : (owners : List Owner) (before : List Routine) (r : Routine) → OwnersAmong owners before → OwnersAmong (owners ++ r.owner ∷ []) (before ++ r ∷ [])
owners-more owners before r h i below = by (nat_lt i (length owners)) refl where
  by : (b : Bool) → nat_lt i (length owners) ≡ b → (q : Routine) × IsOneOf (before ++ r ∷ []) q × (q.owner ≡ get_or (owners ++ r.owner ∷ []) i nobody)
  by true e =
      let g : i < length owners = grind (arith, nat_tests) in
      let x = h i g in (x.0, one-front before (r ∷ []) x.0 x.1, x.2 ∙ sym (get_or_append_left owners (r.owner ∷ []) nobody i g))
  by false e =
      let n = length-append owners (r.owner ∷ []) in
      let g : length owners ≡ i = grind (arith, nat_tests) in (r, one-back before (r ∷ []) r (inl refl), sym (get_or_at owners r.owner [] nobody i g))

pub owners-grow : GrownOwnersLaw
owners-grow t owners before behind r proper e begins apart among-them = (
  apart-more owners r.owner apart
      (λ i below. let x = among-them i below in ap (λ (o : Owner). same_owner o r.owner) (sym x.2) ∙ owner-fresh t before behind r x.0 proper e begins x.1),
  owners-more owners before r among-them,
)

-- ---- later declarations

pub later-owner : LaterOwnerLaw
later-owner t before behind r key proper e later o =
    let i = among t (before ++ r ∷ behind) r e (one-back before (r ∷ behind) r (inl refl)) in
    let f = has-forward t r key proper i o later in
    (f.0, f.1, which f.0 f.1 (one-split before (r ∷ behind) f.0 (subst (λ (xs : List Routine). IsOneOf xs f.0) e f.1.among))) where
      which : (f : Routine) → IsForwardOf (routines_of t) r f → IsOneOf before f ⊎ IsOneOf (r ∷ behind) f → IsOneOf before f
      which f h (inl x) = x
      which f h (inr (inl x)) = absurd (true≢false (sym later ∙ ap (λ (z : Routine). z.is_later) x ∙ h.first))
      which f h (inr (inr x)) =
          absurd (true≢false (sym (follow-behind before behind r f (subst AllFollow e (routines-follow t proper)) x key o (h.owner ∙ o)) ∙ h.first))

-- ---- the owner of a routine

pub has-owner : (t : Plain) (r : Routine) → IsOneOf (routines_of t) r → HasOwner r
has-owner t r i = record { keyed = λ e. keyed r.owner refl (sym n.keyed ∙ e); placed = λ e. placed r.owner refl (sym n.keyed ∙ e) } where
  n : IsNamedByKey r
  n = named t r i

  keyed : (o : Owner) → r.owner ≡ o → is_keyed r.owner ≡ true → (key : List (List ℕ)) × (r.owner ≡ Keyed key)
  keyed (Keyed k) e h = (k, e)
  keyed (Placed p) e h = absurd (true≢false (sym h ∙ ap is_keyed e))

  placed : (o : Owner) → r.owner ≡ o → is_keyed r.owner ≡ false → r.owner ≡ Placed r.place
  placed (Keyed k) e h = absurd (true≢false (sym (ap is_keyed e) ∙ h))
  placed (Placed p) e h = e ∙ ap Placed (sym (n.placed p e))

pub each-owner : EachOwnerLaw
each-owner t before behind r proper e = by r.is_later r.has_key refl refl where
  by : (b c : Bool) → r.is_later ≡ b → r.has_key ≡ c → BeginsOwner r ⊎ ((f : Routine) × IsForwardOf (routines_of t) r f × IsOneOf before f)
  by false c h g = inl (inl h)
  by true false h g = inl (inr g)
  by true true h g =
      let k = (has-owner t r (among t (before ++ r ∷ behind) r e (one-back before (r ∷ behind) r (inl refl)))).keyed g in inr (later-owner t before behind r k.0 proper e h k.1)

first-owner : (t : Plain) (r : Routine) (behind : List Routine) → routines_of t ≡ r ∷ behind → AreApart (r.owner ∷ []) × OwnersAmong (r.owner ∷ []) (r ∷ [])
first-owner t r behind e = (
  apart-more [] r.owner (λ i j h g. absurd (nothing i h)) (λ i h. absurd (nothing i h)),
  owners-more [] [] r (λ i h. absurd (nothing i h)),
) where
  nothing : (i : ℕ) → i < 0 → ⊥
  nothing i h = omega (arith, h)

pub owners-law : OwnersLaw
owners-law = record { owner = has-owner; fresh = owner-fresh; grown = owners-grow; staying = owners-stay; later = later-owner; each = each-owner; first = first-owner }
