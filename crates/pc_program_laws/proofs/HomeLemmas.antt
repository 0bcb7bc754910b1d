-- Where the routine around another stands, by the places alone: three kids further up.
use Rattle.std.specs.Prelude.{ℕ, suc, ◌≡◌, true, List, [], ◌∷◌, Option, ◌++◌}
use Rattle.std.proofs.Common.{refl, ap, sym, ◌∙◌, inl, inr, append_assoc}
use Rattle.std.proofs.lemmas.Bool.{and_parts}
use Rattle.pc_syntax.specs.declared.kind.Kind.TheVariants as kind
use Rattle.pc_syntax.specs.declared.class.Class.TheVariants as class
use Rattle.pc_syntax.specs.Classes.{has}
use Rattle.pc_syntax.specs.Fits.{takes_from}
use Rattle.pc_syntax.specs.Plain.{Forest, Nil, Cons, Plain, kinds}
use Rattle.pc_syntax.specs.WellFormed.{WellFormed, IsProper}
use Rattle.pc_rules.specs.Attributes.{Attributes, first}
use Rattle.pc_rules.specs.Decorated.{decorate}
use Rattle.pc_rules.specs.Meanings.{Found, Local, find}
use Rattle.pc_rules.specs.OwnBlock.{own}
use Rattle.pc_rules.specs.Places.{inner, beside}
use Rattle.pc_rules.specs.RoutineList.{Forwarded, routine_of, key_of, forwarded_by, part_of, routines_in, routines_below, program_routine, routines_of}
use Rattle.pc_rules.specs.Routines.{Routine, bare, start_of}
use Rattle.pc_needs.specs.Answers.{has_block}
use Rattle.pc_needs.specs.Unaffected.{IsOneOf}
use Rattle.pc_needs.proofs.Lists.{Each, each-append}
use Rattle.pc_needs.proofs.Owners.{inner-owner, beside-owner}
use Rattle.pc_needs.proofs.PlaceLemmas.{of-part, one-front, one-back, block-heading}
use Rattle.pc_needs.proofs.UniqueRoutines.{NoRoutines, no-list, list-takes, block-no-routines}

-- a place without its last three numbers
abbrev pub around : List ℕ → List ℕ
around [] = []
around (a ∷ []) = []
around (a ∷ b ∷ []) = []
around (a ∷ b ∷ c ∷ []) = []
around (a ∷ b ∷ c ∷ d ∷ is) = a ∷ around (b ∷ c ∷ d ∷ is)

pub around-append : (p : List ℕ) (i c j : ℕ) → around (p ++ i ∷ c ∷ j ∷ []) ≡ p
around-append [] i c j = refl
around-append (a ∷ []) i c j = refl
around-append (a ∷ b ∷ []) i c j = refl
around-append (a ∷ b ∷ d ∷ []) i c j = refl
around-append (a ∷ b ∷ d ∷ e ∷ p) i c j = ap (λ (q : List ℕ). a ∷ q) (around-append (b ∷ d ∷ e ∷ p) i c j)

-- a kid of a list below a block of a routine
pub around-kid : (e p : List ℕ) (i c j : ℕ) → p ≡ e ++ i ∷ c ∷ [] → around (p ++ j ∷ []) ≡ e
around-kid e p i c j h =
    ap (λ (q : List ℕ). around (q ++ j ∷ [])) h ∙ ap around (append_assoc e (i ∷ c ∷ []) (j ∷ [])) ∙ around-append e i c j

-- a routine stands in the block of another
abbrev pub IsHoused : List Routine → Routine → Type 0
IsHoused us z = (x : Routine) × IsOneOf us x × (x.owner ≡ z.parent) × (has_block x.heading ≡ true) × (around z.place ≡ x.place)

-- the routines of a list are among more
abbrev Among : List Routine → List Routine → Type 0
Among rs us = (z : Routine) → IsOneOf rs z → IsOneOf us z

mutual
  unfolding routines_in

  housed-list : (us : List Routine) (x : Routine) (m : List ℕ → Found) (l : Local) (fs : List Forwarded) (p : List ℕ) (key : Option (List (List ℕ))) (f : Forest) (i c n : ℕ) →
      WellFormed f → takes_from kind.Routines n (kinds f) ≡ true → IsOneOf us x → l.owner ≡ x.owner → has_block x.heading ≡ true → p ≡ x.place ++ i ∷ c ∷ [] →
      Among (routines_in m l fs p key f) us → Each (IsHoused us) (routines_in m l fs p key f)
  housed-list us x m l fs p key Nil i c n w t one o b e = λ among. tt
  housed-list us x m l fs p key (Cons k v ns ks ts) i c n w t one o b e =
      let a : Attributes = first (decorate (bare m) l (own (Cons k v ns ks Nil))) in
      let after : Local = beside l k a in
      let r : Routine = routine_of (find (bare m) after) l fs (p ++ l.kid ∷ []) key k ks in
      let takes = and_parts (has class.Routine k) (takes_from kind.Routines (suc n) (kinds ts)) t in
      of-part (λ rs. Among rs us → Each (IsHoused us) rs) (part_of k) _ _ _
      (λ part among. each-append (IsHoused us) (r ∷ routines_below r 1 ks) _ (
        (x, one, sym o, b, around-kid x.place p i c l.kid e),
        housed-below us r 1 ks w.3 (among r (inl refl)) (λ h. block-heading ks ∙ h) (λ z h. among z (one-front (r ∷ routines_below r 1 ks) _ z (inr h))),
      )
      (housed-list us x m after (forwarded_by l r fs) p key ts i c (suc n) w.4 takes.1 one (beside-owner l k a ∙ o) b e (λ z h. among z (one-back (r ∷ routines_below r 1 ks) _ z h))))
      (λ part. absurd (no-list k takes.0 part))
      (λ part among. housed-list us x m after fs p key ts i c (suc n) w.4 takes.1 one (beside-owner l k a ∙ o) b e among)

  housed-block : (us : List Routine) (x : Routine) (m : List ℕ → Found) (l : Local) (fs : List Forwarded) (p : List ℕ) (key : Option (List (List ℕ))) (f : Forest) (i : ℕ) →
      WellFormed f → NoRoutines f → IsOneOf us x → l.owner ≡ x.owner → has_block x.heading ≡ true → p ≡ x.place ++ i ∷ [] →
      Among (routines_in m l fs p key f) us → Each (IsHoused us) (routines_in m l fs p key f)
  housed-block us x m l fs p key Nil i w free one o b e = λ among. tt
  housed-block us x m l fs p key (Cons k v ns ks ts) i w free one o b e =
      let a : Attributes = first (decorate (bare m) l (own (Cons k v ns ks Nil))) in
      of-part (λ rs. Among rs us → Each (IsHoused us) rs) (part_of k) _ _ _
      (λ part. absurd (free.0 part))
      (λ part among. housed-list us x m (inner l k ks) [] (p ++ l.kid ∷ []) key ks i l.kid 0 w.3 (list-takes k v ks part w.0) one (inner-owner l k ks ∙ o) b
      (ap (λ (q : List ℕ). q ++ l.kid ∷ []) e ∙ append_assoc x.place (i ∷ []) (l.kid ∷ [])) among)
      (λ part among. housed-block us x m (beside l k a) fs p key ts i w.4 free.1 one (beside-owner l k a ∙ o) b e among)

  pub housed-below : (us : List Routine) (r : Routine) (i : ℕ) (f : Forest) → WellFormed f → IsOneOf us r → (has_block f ≡ true → has_block r.heading ≡ true) →
      Among (routines_below r i f) us → Each (IsHoused us) (routines_below r i f)
  housed-below us r i Nil w one b among = tt
  housed-below us r i (Cons kind.Block v ns ks ts) w one b among =
      housed-block us r r.means (start_of r) [] (r.place ++ i ∷ []) (key_of r.owner) ks i w.3 (block-no-routines v ks w.0) one refl (b refl) refl among
  housed-below us r i (Cons k v ns ks ts) w one b among = housed-below us r (suc i) ts w.4 one b among

-- each routine of a program but itself
pub routines-housed : (t : Plain) → IsProper t → Each (IsHoused (routines_of t)) (routines_below (program_routine t) 1 t.kids)
unfolding routines_of
routines-housed t proper = housed-below (routines_of t) (program_routine t) 1 t.kids proper.sound.3 (inl refl) (λ h. block-heading t.kids ∙ h) (λ z h. inr h)
