-- The owner of a routine is that of none before it.
use Rattle.std.proofs.Common.{◌≡◌, List, [], ◌∷◌, ◌++◌, ◌⊎◌, refl, ap, sym, ◌∙◌, subst, inl, inr}
use Rattle.std.proofs.lemmas.Bool.{true≢false, false_from_ne_true}
use Rattle.pc_syntax.specs.Plain.{Plain}
use Rattle.pc_types.specs.Sameness.{same_owner}
use Rattle.pc_types.specs.Shapes.{Owner, Keyed, Placed}
use Rattle.pc_rules.specs.RoutineList.{routines_of}
use Rattle.pc_rules.specs.Routines.{Routine}
use Rattle.pc_needs.specs.Unaffected.{IsOneOf}
use Rattle.pc_needs.proofs.KeyLemmas.{IsNamedByKey, is_keyed, routines-named}
use Rattle.pc_needs.proofs.Lists.{each-one}
use Rattle.pc_needs.proofs.Owners.{same_owner-equal}
use Rattle.pc_needs.proofs.PlaceLemmas.{one-front, one-back}
use Rattle.pc_needs.proofs.PlacesApart.{Apart, AllApart, routines-apart}
use Rattle.pc_block_laws.specs.Owners.{BeginsOwner, FreshLaw}
use Rattle.pc_block_laws.proofs.FollowLemmas.{Follows, AllFollow}
use Rattle.pc_block_laws.proofs.FollowRoutines.{routines-follow}

-- ---- two routines of a list, the one before the other

follow-before : (before behind : List Routine) (r q : Routine) → AllFollow (before ++ r ∷ behind) → IsOneOf before q → Follows q r
follow-before [] behind r q h i = absurd i
follow-before (x ∷ before) behind r q h (inl e) = subst (λ (z : Routine). Follows z r) e (each-one (Follows x) (before ++ r ∷ behind) r (one-back before (r ∷ behind) r (inl refl)) h.0)
follow-before (x ∷ before) behind r q h (inr i) = follow-before before behind r q h.1 i

pub follow-behind : (before behind : List Routine) (r q : Routine) → AllFollow (before ++ r ∷ behind) → IsOneOf behind q → Follows r q
follow-behind [] behind r q h i = each-one (Follows r) behind q i h.0
follow-behind (x ∷ before) behind r q h i = follow-behind before behind r q h.1 i

apart-before : (before behind : List Routine) (r q : Routine) → AllApart (before ++ r ∷ behind) → IsOneOf before q → Apart q r
apart-before [] behind r q h i = absurd i
apart-before (x ∷ before) behind r q h (inl e) = subst (λ (z : Routine). Apart z r) e (each-one (Apart x) (before ++ r ∷ behind) r (one-back before (r ∷ behind) r (inl refl)) h.0)
apart-before (x ∷ before) behind r q h (inr i) = apart-before before behind r q h.1 i

-- one of two lists
pub one-split : (xs ys : List Routine) (q : Routine) → IsOneOf (xs ++ ys) q → IsOneOf xs q ⊎ IsOneOf ys q
one-split [] ys q h = inr h
one-split (x ∷ xs) ys q (inl e) = inl (inl e)
one-split (x ∷ xs) ys q (inr h) = which (one-split xs ys q h) where
  which : IsOneOf xs q ⊎ IsOneOf ys q → IsOneOf (x ∷ xs) q ⊎ IsOneOf ys q
  which (inl g) = inl (inr g)
  which (inr g) = inr g

-- one of the routines of a program
pub among : (t : Plain) (rs : List Routine) (q : Routine) → routines_of t ≡ rs → IsOneOf rs q → IsOneOf (routines_of t) q
among t rs q e i = subst (λ (xs : List Routine). IsOneOf xs q) (sym e) i

pub named : (t : Plain) (r : Routine) → IsOneOf (routines_of t) r → IsNamedByKey r
named t r i = each-one IsNamedByKey (routines_of t) r i (routines-named t)

-- ---- an owner is new

pub owner-fresh : FreshLaw
owner-fresh t before behind r q proper e begins i = false_from_ne_true (same_owner q.owner r.owner) (λ s. by r.owner refl (same_owner-equal q.owner r.owner s) begins) where
  by : (o : Owner) → r.owner ≡ o → q.owner ≡ r.owner → BeginsOwner r → ⊥
  by (Keyed k) o s (inl first) =
      true≢false (sym (follow-before before behind r q (subst AllFollow e (routines-follow t proper)) i k (s ∙ o) o) ∙ first)
  by (Keyed k) o s (inr none) = true≢false (sym (ap is_keyed o) ∙ sym (named t r (among t (before ++ r ∷ behind) r e (one-back before (r ∷ behind) r (inl refl)))).keyed ∙ none)
  by (Placed p) o s b =
      apart-before before behind r q (subst AllApart e (routines-apart t)) i
      ((named t q (among t (before ++ r ∷ behind) q e (one-front before (r ∷ behind) q i))).placed p (s ∙ o)
      ∙ sym ((named t r (among t (before ++ r ∷ behind) r e (one-back before (r ∷ behind) r (inl refl)))).placed p o))
