-- One routine with a block has each owner, so the targets say what it says.
use Rattle.std.proofs.Common.{◌≡◌, ℕ, Bool, true, false, ◌&&◌, if◌then◌else◌, List, [], ◌∷◌, refl, sym, ◌∙◌, ap, true≢false, inl, inr}
use Rattle.std.proofs.lemmas.Bool.{and_parts, and_from}
use Rattle.pc_syntax.specs.Plain.{Forest, Plain}
use Rattle.pc_syntax.specs.WellFormed.{IsProper}
use Rattle.pc_types.specs.Sameness.{same_owner}
use Rattle.pc_types.specs.Shapes.{Owner, Keyed, Placed}
use Rattle.pc_scope.specs.Headings.{ends_forward}
use Rattle.pc_rules.specs.Errors.{is_program}
use Rattle.pc_rules.specs.RoutineList.{routines_of}
use Rattle.pc_rules.specs.Routines.{Routine}
use Rattle.pc_needs.specs.Answers.{has_block}
use Rattle.pc_needs.specs.Unaffected.{IsOneOf}
use Rattle.pc_needs.proofs.KeyLemmas.{IsNamedByKey, routines-named}
use Rattle.pc_needs.proofs.Lists.{each-one}
use Rattle.pc_needs.proofs.Owners.{same_owner-equal, same_owner-self}
use Rattle.pc_needs.proofs.PlacesApart.{places-law}
use Rattle.pc_needs.proofs.UniqueLemmas.{NotBoth}
use Rattle.pc_needs.proofs.UniqueRoutines.{IsOneHeading, one-heading, keys-law}
use Rattle.pc_targets.specs.Program.{said_by, program_targets, targets_of}

no-forward : (f : Forest) → NotBoth f → has_block f ≡ true → ends_forward f ≡ false
no-forward f h e = by (ends_forward f) refl where
  by : (b : Bool) → ends_forward f ≡ b → b ≡ false
  by true q = absurd (h e q)
  by false q = refl

-- two routines with blocks that have one owner are one
pub same-routine : (t : Plain) (a b : Routine) → IsProper t → is_program t.kind ≡ true → IsOneOf (routines_of t) a → IsOneOf (routines_of t) b →
    has_block a.heading ≡ true → has_block b.heading ≡ true → a.owner ≡ b.owner → a ≡ b
same-routine t a b proper p i j x y same = by b.owner same refl where
  all : List Routine
  all = routines_of t

  forward : (r : Routine) → IsOneOf all r → has_block r.heading ≡ true → ends_forward r.heading ≡ false
  forward r k z = no-forward r.heading (each-one IsOneHeading all r k (one-heading t proper p)) z

  by : (o : Owner) → a.owner ≡ o → b.owner ≡ o → a ≡ b
  by (Keyed k) q u = keys-law t a b k proper i j q u (forward a i x ∙ sym (forward b j y))
  by (Placed s) q u = places-law t a b i j ((each-one IsNamedByKey all a i (routines-named t)).placed s q ∙ sym ((each-one IsNamedByKey all b j (routines-named t)).placed s u))

-- the first that is found among some routines is the one of which a name is asked
among-some : (t : Plain) (r : Routine) (rs : List Routine) (n : List ℕ) → IsProper t → is_program t.kind ≡ true → has_block r.heading ≡ true → IsOneOf (routines_of t) r →
    ((x : Routine) → IsOneOf rs x → IsOneOf (routines_of t) x) → IsOneOf rs r → program_targets (routines_of t) rs r.owner n ≡ said_by (routines_of t) r r.owner n
among-some t r [] n proper p b one among i = absurd i
among-some t r (x ∷ xs) n proper p b one among i = by (among-some t r xs n proper p b one (λ y h. among y (inr h))) (same_owner r.owner x.owner && has_block x.heading) refl where
  rest : (IsOneOf xs r → program_targets (routines_of t) xs r.owner n ≡ said_by (routines_of t) r r.owner n) → IsOneOf (x ∷ xs) r → (same_owner r.owner x.owner && has_block x.heading) ≡ false →
      program_targets (routines_of t) xs r.owner n ≡ said_by (routines_of t) r r.owner n
  rest more (inl e) q =
      let it : (same_owner r.owner r.owner && has_block r.heading) ≡ true = and_from (same_owner r.owner r.owner) (has_block r.heading) (same_owner-self r.owner) b in
      absurd (true≢false (sym it ∙ ap (λ (y : Routine). same_owner r.owner y.owner && has_block y.heading) (sym e) ∙ q))
  rest more (inr k) q = more k

  by : (IsOneOf xs r → program_targets (routines_of t) xs r.owner n ≡ said_by (routines_of t) r r.owner n) → (c : Bool) → (same_owner r.owner x.owner && has_block x.heading) ≡ c →
      (if c then said_by (routines_of t) x r.owner n else program_targets (routines_of t) xs r.owner n) ≡ said_by (routines_of t) r r.owner n
  by more true q =
      let both = and_parts (same_owner r.owner x.owner) (has_block x.heading) q in
      let same = same-routine t r x proper p one (among x (inl refl)) b both.1 (same_owner-equal r.owner x.owner both.0) in
      ap (λ (y : Routine). said_by (routines_of t) y r.owner n) (sym same)
  by more false q = rest more i q

-- what the targets say of a name in the block of a routine
pub targets-said : (t : Plain) (r : Routine) (n : List ℕ) → IsProper t → is_program t.kind ≡ true → IsOneOf (routines_of t) r → has_block r.heading ≡ true →
    targets_of t r.owner n ≡ said_by (routines_of t) r r.owner n
targets-said t r n proper p i b = among-some t r (routines_of t) n proper p b i (λ x h. h) i
