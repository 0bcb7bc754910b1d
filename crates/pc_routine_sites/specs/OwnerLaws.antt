-- Owners, each of one number, with one more: lemmas.
use Rattle.std.proofs.Common.{◌≡◌, ◌<◌, ◌⊎◌, inl, inr, nat_eq, ℕ, zero, suc, Bool, true, false, List, [], ◌∷◌, ◌++◌, length, get_or, Option, Some, None, refl, ap, sym, ◌∙◌, subst, arith, true≢false}
use Rattle.std.proofs.lemmas.Bool.Decides.{nat_tests}
use Rattle.std.proofs.lemmas.List.{get_or_append_left}
use Rattle.pc_types.specs.Sameness.{same_owner}
use Rattle.pc_types.specs.Shapes.{Owner}
use Rattle.pc_types.specs.Table.{Table, nobody}
use Rattle.pc_types.specs.declared.form.OwnerId.{OwnerId}
use Rattle.pc_rules.specs.Routines.{Routine}
use Rattle.pc_needs.specs.Unaffected.{IsOneOf}
use Rattle.pc_needs.proofs.Owners.{same_owner-equal, same_owner-self}
use Rattle.pc_needs.proofs.PlaceLemmas.{one-front, one-back}
use Rattle.pc_sightings.specs.TouchedLog.{AreApart}
use Rattle.pc_routine_sites.specs.Identities.{IsOwner}
use Rattle.pc_routine_sites.specs.Sites.{OwnersAmong, FreshOwner}

-- ---- the last one

last-or : {X : Type 0} (xs : List X) (x d : X) → get_or (xs ++ x ∷ []) (length xs) d ≡ x
last-or {X} [] x d = refl
last-or {X} (y ∷ xs) x d = last-or xs x d

-- a number is that of an earlier one, or of the last one
front-or-last : (n i : ℕ) → i < suc n → (i < n) ⊎ (i ≡ n)
front-or-last zero zero less = inr refl
front-or-last zero (suc i) less = let no : ⊥ = omega (arith, less) in absurd no
front-or-last (suc n) zero less = inl (omega arith)
front-or-last (suc n) (suc i) less = more (front-or-last n i (omega (arith, less)))
  where
    more : (i < n) ⊎ (i ≡ n) → (suc i < suc n) ⊎ (suc i ≡ suc n)
    more (inl h) = inl (omega (arith, h))
    more (inr e) = inr (ap suc e)

longer : {X : Type 0} (xs : List X) (x : X) → length (xs ++ x ∷ []) ≡ suc (length xs)
longer {X} [] x = refl
longer {X} (y ∷ xs) x = ap suc (longer xs x)

split : {X : Type 0} (xs : List X) (x : X) (i : ℕ) → i < length (xs ++ x ∷ []) → (i < length xs) ⊎ (i ≡ length xs)
split {X} xs x i less = front-or-last (length xs) i (subst (λ (n : ℕ). i < n) (longer xs x) less)

-- ---- owners are apart

turned : (a b : Owner) → same_owner a b ≡ false → same_owner b a ≡ false
turned a b e = by (same_owner b a) refl
  where
    by : (c : Bool) → same_owner b a ≡ c → c ≡ false
    by false f = refl
    by true f = absurd (true≢false (sym (same_owner-self b) ∙ ap (λ (o : Owner). same_owner o b) (same_owner-equal b a f) ∙ e))

module _ (os : List Owner) (o : Owner) (apart : AreApart os) (fresh : (i : ℕ) → i < length os → same_owner (get_or os i nobody) o ≡ false) where
  abbrev at : ℕ → Owner
  at i = get_or (os ++ o ∷ []) i nobody

  before : (i : ℕ) → i < length os → at i ≡ get_or os i nobody
  before i less = get_or_append_left os (o ∷ []) nobody i less

  behind : (i : ℕ) → i ≡ length os → at i ≡ o
  behind i e = ap at e ∙ last-or os o nobody

  pair : (i j : ℕ) → (i < length os) ⊎ (i ≡ length os) → (j < length os) ⊎ (j ≡ length os) → same_owner (at i) (at j) ≡ nat_eq i j
  pair i j (inl a) (inl b) = (λ k. same_owner (before i a k) (before j b k)) ∙ apart i j a b
  pair i j (inl a) (inr b) = (λ k. same_owner (before i a k) (behind j b k)) ∙ fresh i a ∙ (let e : false ≡ nat_eq i j = grind (arith, nat_tests) in e)
  pair i j (inr a) (inl b) = (λ k. same_owner (behind i a k) (before j b k)) ∙ turned (get_or os j nobody) o (fresh j b) ∙ (let e : false ≡ nat_eq i j = grind (arith, nat_tests) in e)
  pair i j (inr a) (inr b) = (λ k. same_owner (behind i a k) (behind j b k)) ∙ same_owner-self o ∙ (let e : true ≡ nat_eq i j = grind (arith, nat_tests) in e)

  pub AreApart-more : AreApart (os ++ o ∷ [])
  AreApart-more = λ i j a b. pair i j (split os o i a) (split os o j b)

-- ---- they are those of routines

pub OwnersAmong-more : (os : List Owner) (done : List Routine) (r : Routine) → OwnersAmong os done → OwnersAmong os (done ++ r ∷ [])
OwnersAmong-more os done r among i less = let a = among i less in (a.0, one-front done (r ∷ []) a.0 a.1, a.2)

one-last : (done : List Routine) (r : Routine) → IsOneOf (done ++ r ∷ []) r
one-last done r = one-back done (r ∷ []) r (inl refl)

pub OwnersAmong-owner : (os : List Owner) (o : Owner) (done : List Routine) (r : Routine) → o ≡ r.owner → OwnersAmong os done → OwnersAmong (os ++ o ∷ []) (done ++ r ∷ [])
OwnersAmong-owner os o done r e among i less = by (split os o i less)
  where
    by : (i < length os) ⊎ (i ≡ length os) → (q : Routine) × IsOneOf (done ++ r ∷ []) q × (get_or (os ++ o ∷ []) i nobody ≡ q.owner)
    by (inl h) = let a = among i h in (a.0, one-front done (r ∷ []) a.0 a.1, get_or_append_left os (o ∷ []) nobody i h ∙ a.2)
    by (inr h) = (r, one-last done r, ap (λ (j : ℕ). get_or (os ++ o ∷ []) j nobody) h ∙ last-or os o nobody ∙ e)

-- none of the owners is a fresh one
fresh-among : (os : List Owner) (o : Owner) (done : List Routine) (r : Routine) → o ≡ r.owner → OwnersAmong os done → FreshOwner done r → (i : ℕ) → i < length os → same_owner (get_or os i nobody) o ≡ false
fresh-among os o done r e among fresh i less = let a = among i less in (λ k. same_owner (a.2 k) (e k)) ∙ fresh a.0 a.1

-- ---- a routine got its number as an owner

-- they are apart
pub apart-owned : (taken : Option OwnerId) (o : Owner) (old new : Table) (i : OwnerId) (done : List Routine) (r : Routine) → IsOwner taken o old new i → o ≡ r.owner → OwnersAmong old.owners done →
    (taken ≡ None → FreshOwner done r) → AreApart old.owners → AreApart new.owners
apart-owned (Some d) o old new i done r h e among fresh apart = subst (λ (t : Table). AreApart t.owners) (sym h.1) apart
apart-owned None o old new i done r h e among fresh apart =
    subst AreApart (sym h.1.owners) (AreApart-more old.owners o apart (λ j less. fresh-among old.owners o done r e among (fresh refl) j less))

-- they are those of the routines so far
pub among-owned : (taken : Option OwnerId) (o : Owner) (old new : Table) (i : OwnerId) (done : List Routine) (r : Routine) → IsOwner taken o old new i → o ≡ r.owner → OwnersAmong old.owners done →
    OwnersAmong new.owners (done ++ r ∷ [])
among-owned (Some d) o old new i done r h e among = subst (λ (t : Table). OwnersAmong t.owners (done ++ r ∷ [])) (sym h.1) (OwnersAmong-more old.owners done r among)
among-owned None o old new i done r h e among = subst (λ (os : List Owner). OwnersAmong os (done ++ r ∷ [])) (sym h.1.owners) (OwnersAmong-owner old.owners o done r e among)

-- the number is that of the routine
pub number-owned : (taken : Option OwnerId) (o : Owner) (old new : Table) (i : OwnerId) → IsOwner taken o old new i → ((d : OwnerId) → taken ≡ Some d → get_or old.owners d.0 nobody ≡ o) →
    get_or new.owners i.0 nobody ≡ o
number-owned (Some d) o old new i h is = (λ k. get_or (h.1 k).owners (h.0 k).0 nobody) ∙ is d refl
number-owned None o old new i h is = (λ k. get_or (h.1.owners k) (h.0 k) nobody) ∙ last-or old.owners o nobody
