-- The first routine of a name in a block is the one that is found by that name.
use Rattle.std.specs.Prelude.{◌≡◌, Bool, true, false, ◌&&◌, if◌then◌else◌, List, [], ◌∷◌, ◌⊎◌}
use Rattle.std.specs.Str.{bytes_eq}
use Rattle.std.proofs.Common.{refl, ap, sym, ◌∙◌, true≢false, inl, inr}
use Rattle.std.proofs.lemmas.Bool.{and_parts, and_from}
use Rattle.std.proofs.lemmas.Slice.Eq.{bytes_eq-Decides}
use Rattle.pc_syntax.specs.Plain.{Plain}
use Rattle.pc_types.specs.Sameness.{same_owner}
use Rattle.pc_rules.specs.Headings.{signature_in}
use Rattle.pc_rules.specs.Outsides.{signature_named}
use Rattle.pc_rules.specs.RoutineList.{routines_of, program_routine, routines_below}
use Rattle.pc_rules.specs.Routines.{Routine}
use Rattle.pc_needs.specs.Unaffected.{IsOneOf}
use Rattle.pc_needs.proofs.InsideLemmas.{one-place}
use Rattle.pc_needs.proofs.Lists.{each-one}
use Rattle.pc_needs.proofs.Owners.{same_owner-equal, same_owner-self}
use Rattle.pc_program_laws.specs.Signatures.{SignaturesLaw}
use Rattle.pc_program_laws.proofs.FirstLemmas.{one-first, routines-unlike}
use Rattle.pc_program_laws.proofs.HomeLemmas.{IsHoused, routines-housed}

-- the one that is found, where all that are found are one
named-one : (rs : List Routine) (q : Routine) →
    ((x : Routine) → IsOneOf rs x → (same_owner x.parent q.parent && x.is_first && bytes_eq x.name q.name) ≡ true → x ≡ q) → IsOneOf rs q → q.is_first ≡ true →
    signature_named rs q.parent q.name ≡ signature_in q
named-one [] q h i f = absurd i
named-one (x ∷ xs) q h i f = which (named-one xs q (λ y j. h y (inr j))) i (same_owner x.parent q.parent && x.is_first && bytes_eq x.name q.name) refl where
  which : (IsOneOf xs q → q.is_first ≡ true → signature_named xs q.parent q.name ≡ signature_in q) → (x ≡ q) ⊎ IsOneOf xs q → (b : Bool) →
      (same_owner x.parent q.parent && x.is_first && bytes_eq x.name q.name) ≡ b → (if b then signature_in x else signature_named xs q.parent q.name) ≡ signature_in q
  which rest j true e = ap signature_in (h x (inl refl) e)
  which rest (inr j) false e = rest j f
  which rest (inl j) false e =
      absurd (true≢false (sym (and_from (same_owner x.parent q.parent && x.is_first) (bytes_eq x.name q.name)
      (and_from (same_owner x.parent q.parent) x.is_first (ap (λ (z : Routine). same_owner z.parent q.parent) j ∙ same_owner-self q.parent) (ap (λ (z : Routine). z.is_first) j ∙ f))
      ((bytes_eq-Decides x.name q.name).1 (ap (λ (z : Routine). z.name) j))) ∙ e))

-- the program itself is no first one of a name
not-itself : (t : Plain) (x : Routine) → IsOneOf (routines_of t) x → x.is_first ≡ true → IsOneOf (routines_below (program_routine t) 1 t.kids) x
unfolding routines_of
not-itself t x (inl e) f = absurd (true≢false (sym f ∙ ap (λ (z : Routine). z.is_first) (sym e)))
not-itself t x (inr i) f = i

pub signatures-law : SignaturesLaw
signatures-law t q proper program i f = named-one (routines_of t) q same i f where
  home : (x : Routine) → IsOneOf (routines_of t) x → x.is_first ≡ true → IsHoused (routines_of t) x
  home x j g = each-one (IsHoused (routines_of t)) (routines_below (program_routine t) 1 t.kids) x (not-itself t x j g) (routines-housed t proper)

  same : (x : Routine) → IsOneOf (routines_of t) x → (same_owner x.parent q.parent && x.is_first && bytes_eq x.name q.name) ≡ true → x ≡ q
  same x j e =
      let outer = and_parts (same_owner x.parent q.parent && x.is_first) (bytes_eq x.name q.name) e in
      let parts = and_parts (same_owner x.parent q.parent) x.is_first outer.0 in
      let a = home x j parts.1 in
      let b = home q i f in
      let place : a.0.place ≡ b.0.place =
      one-place t proper program a.0 b.0 q.parent a.1 b.1 (a.2 ∙ same_owner-equal x.parent q.parent parts.0) b.2 a.3 b.3 in
      one-first (routines_below (program_routine t) 1 t.kids) x q (routines-unlike t proper) (not-itself t x j parts.1) (not-itself t q i f) parts.1 f (a.4 ∙ place ∙ sym b.4)
      ((bytes_eq-Decides x.name q.name).0 outer.1)
