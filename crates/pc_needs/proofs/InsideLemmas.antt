-- The routines inside a routine decide whether another touches its variables.
use Rattle.std.specs.Prelude.{ℕ, ◌≡◌, Bool, true, false, not, ◌&&◌, ◌||◌, if◌then◌else◌, List, [], ◌∷◌}
use Rattle.std.specs.Str.{bytes_eq}
use Rattle.std.proofs.Common.{refl, ap, sym, subst, ◌∙◌, true≢false, inl, inr}
use Rattle.std.proofs.lemmas.Bool.{and_parts, or_from, false_from_ne_true}
use Rattle.pc_syntax.specs.Plain.{Plain}
use Rattle.pc_syntax.specs.WellFormed.{IsProper}
use Rattle.pc_types.specs.Sameness.{same_owner}
use Rattle.pc_types.specs.Shapes.{Owner, Keyed, Placed}
use Rattle.pc_scope.specs.Headings.{ends_forward}
use Rattle.pc_rules.specs.Attributes.{nodes}
use Rattle.pc_rules.specs.Decorated.{decorate}
use Rattle.pc_rules.specs.Errors.{is_program}
use Rattle.pc_rules.specs.ForStatements.{stands_among}
use Rattle.pc_rules.specs.HandedOn.{all_touches}
use Rattle.pc_rules.specs.Outsides.{quiet, touched_by_others}
use Rattle.pc_rules.specs.RoutineList.{routines_of}
use Rattle.pc_rules.specs.Routines.{Routine, start_of}
use Rattle.pc_needs.specs.Answers.{has_block}
use Rattle.pc_needs.specs.Inside.{is_below, inside, TouchesLaw}
use Rattle.pc_needs.specs.Unaffected.{IsOneOf}
use Rattle.pc_needs.proofs.KeyLemmas.{IsNamedByKey, routines-named}
use Rattle.pc_needs.proofs.Lists.{Each, each-one}
use Rattle.pc_needs.proofs.Owners.{same_owner-equal, same_owner-self}
use Rattle.pc_needs.proofs.TouchedLemmas.{NoOwner, IsScoped, IsReached, routines-scoped, touches-reached}
use Rattle.pc_needs.proofs.UniqueRoutines.{IsOneHeading, one-heading, routines-differ, one-of-key}
use Rattle.pc_needs.proofs.VariableOwners.{OfVariables}

-- two routines with blocks that own the same stand at one place
module _ (t : Plain) (proper : IsProper t) (program : is_program t.kind ≡ true) where
  no-forward : (r : Routine) → IsOneOf (routines_of t) r → has_block r.heading ≡ true → ends_forward r.heading ≡ false
  no-forward r i b = false_from_ne_true (ends_forward r.heading) (each-one IsOneHeading (routines_of t) r i (one-heading t proper program) b)

  pub one-place : (a b : Routine) (o : Owner) → IsOneOf (routines_of t) a → IsOneOf (routines_of t) b → a.owner ≡ o → b.owner ≡ o →
      has_block a.heading ≡ true → has_block b.heading ≡ true → a.place ≡ b.place
  one-place a b (Keyed k) i j p q x y =
      ap (λ (r : Routine). r.place) (one-of-key (routines_of t) a b k (routines-differ t proper) i j p q (no-forward a i x ∙ sym (no-forward b j y)))
  one-place a b (Placed z) i j p q x y =
      (each-one IsNamedByKey (routines_of t) a i (routines-named t)).placed z p ∙ sym ((each-one IsNamedByKey (routines_of t) b j (routines-named t)).placed z q)

-- no variable of the owner is among those that others own
none-among : (P : Owner → Type 0) (vs : List (Owner × List ℕ)) (o : Owner) (n : List ℕ) → OfVariables P vs → (P o → ⊥) → stands_among vs o n ≡ false
none-among P [] o n h g = refl
none-among P (v ∷ vs) o n h g =
    or_from (same_owner v.0 o && bytes_eq v.1 n) (stands_among vs o n)
    (false_from_ne_true (same_owner v.0 o && bytes_eq v.1 n) (λ e. g (subst P (same_owner-equal v.0 o (and_parts (same_owner v.0 o) (bytes_eq v.1 n) e).0) h.0)))
    (none-among P vs o n h.1 g)

-- a routine that isn't inside touches no variable of the block, but its own
module _ (t : Plain) (proper : IsProper t) (program : is_program t.kind ≡ true) (r : Routine) (here : IsOneOf (routines_of t) r) (block : has_block r.heading ≡ true) (n : List ℕ) where
  -- what it adds
  abbrev touches : Routine → Bool
  touches x = not (same_owner x.owner r.owner) && stands_among (all_touches (nodes (decorate (quiet (routines_of t) x) (start_of x) x.block))) r.owner n

  not-reached : (x : Routine) → is_below r.place x.place ≡ false → same_owner x.owner r.owner ≡ false → IsReached (routines_of t) x r.owner → ⊥
  not-reached x below other (inl e) = true≢false (sym (ap (λ (o : Owner). same_owner x.owner o) e ∙ same_owner-self x.owner) ∙ other)
  not-reached x below other (inr y) =
      let same : y.0.place ≡ r.place = one-place t proper program y.0 r r.owner y.1 here y.2 refl y.3 block in
      true≢false (sym y.4 ∙ ap (λ (p : List ℕ). is_below p x.place) same ∙ below)

  silent : (x : Routine) → IsScoped NoOwner (routines_of t) x → is_below r.place x.place ≡ false → touches x ≡ false
  silent x scoped below = which (same_owner x.owner r.owner) refl where
    which : (b : Bool) → same_owner x.owner r.owner ≡ b → (not b && stands_among (all_touches (nodes (decorate (quiet (routines_of t) x) (start_of x) x.block))) r.owner n) ≡ false
    which true e = refl
    which false e = none-among (IsReached (routines_of t) x) _ r.owner n (touches-reached (routines_of t) x scoped) (not-reached x below e)

  by-inside : (rs : List Routine) → Each (IsScoped NoOwner (routines_of t)) rs → touched_by_others (routines_of t) rs r.owner n ≡ touched_by_others (routines_of t) (inside r rs) r.owner n
  by-inside [] h = refl
  by-inside (x ∷ xs) h = which (by-inside xs h.1) (is_below r.place x.place) refl where
    which : touched_by_others (routines_of t) xs r.owner n ≡ touched_by_others (routines_of t) (inside r xs) r.owner n → (b : Bool) → is_below r.place x.place ≡ b →
        (touches x || touched_by_others (routines_of t) xs r.owner n) ≡ touched_by_others (routines_of t) (if b then x ∷ inside r xs else inside r xs) r.owner n
    which rest true e = ap (λ (b : Bool). touches x || b) rest
    which rest false e = ap (λ (b : Bool). b || touched_by_others (routines_of t) xs r.owner n) (silent x h.0 e) ∙ rest

pub touches-law : TouchesLaw
touches-law t r n proper program here block = by-inside t proper program r here block n (routines_of t) (routines-scoped t proper program)
