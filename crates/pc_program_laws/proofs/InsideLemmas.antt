-- What other routines touch of a block is what those inside touch.
use Rattle.std.specs.Prelude.{ℕ, ◌≡◌, Bool, true, false, not, ◌&&◌, ◌||◌, if◌then◌else◌, List, [], ◌∷◌, ◌++◌}
use Rattle.std.specs.Str.{bytes_eq}
use Rattle.std.proofs.Common.{refl, ap, sym, subst, ◌∙◌, true≢false, append_assoc}
use Rattle.std.proofs.lemmas.Bool.{false_from_ne_true}
use Rattle.pc_syntax.specs.Plain.{Plain}
use Rattle.pc_syntax.specs.WellFormed.{IsProper}
use Rattle.pc_types.specs.Sameness.{same_owner}
use Rattle.pc_types.specs.Shapes.{Owner, Keyed, Placed}
use Rattle.pc_rules.specs.Attributes.{nodes}
use Rattle.pc_rules.specs.Decorated.{decorate}
use Rattle.pc_rules.specs.ForStatements.{stands_among}
use Rattle.pc_rules.specs.HandedOn.{all_touches}
use Rattle.pc_rules.specs.Outsides.{quiet, touched_by_others}
use Rattle.pc_rules.specs.RoutineList.{key_of, routines_below, routines_of}
use Rattle.pc_rules.specs.Routines.{Routine, start_of}
use Rattle.pc_needs.specs.Inside.{is_below, inside}
use Rattle.pc_needs.specs.Unaffected.{IsOneOf}
use Rattle.pc_needs.proofs.InsideLemmas.{touches-law}
use Rattle.pc_needs.proofs.KeyLemmas.{key_or, IsNamedByKey, routines-named}
use Rattle.pc_needs.proofs.Lists.{Each, each-map, each-one, each-both}
use Rattle.pc_needs.proofs.Owners.{same_owner-equal}
use Rattle.pc_needs.proofs.PlaceLemmas.{StandsBelow}
use Rattle.pc_needs.proofs.UniqueLemmas.{StandsUnder, key-longer}
use Rattle.pc_needs.proofs.UniqueRoutines.{differ-below}
use Rattle.pc_program_laws.specs.Inside.{touches_of, BelowLaw, TouchedLaw, TouchedBelowLaw, JoinedLaw, InsideLaw}
use Rattle.pc_program_laws.proofs.HoldsLemmas.{not-itself}
use Rattle.pc_program_laws.proofs.SpreadLemmas.{IsSpreadIn, routines-spread, spread-at, spread-well}

below-law : BelowLaw
below-law t x r i e =
    let s = each-one (IsSpreadIn t) (routines_of t) r i (routines-spread t) in
    s.2 ∙ ap (routines_below r 1) (sym (spread-at t x r.place s.0 s.1 e))

-- ---- owners

-- what holds of all routines holds of those inside one, and they stand below it
inside-each : (P : Routine → Type 0) (r : Routine) (xs : List Routine) → Each P xs → Each (λ x. P x × StandsBelow r.place x) (inside r xs)
inside-each P r [] h = tt
inside-each P r (x ∷ xs) h = which (inside-each P r xs h.1) (is_below r.place x.place) refl where
  which : Each (λ y. P y × StandsBelow r.place y) (inside r xs) → (b : Bool) → is_below r.place x.place ≡ b →
      Each (λ y. P y × StandsBelow r.place y) (if b then x ∷ inside r xs else inside r xs)
  which rest true e = ((h.0, e), rest)
  which rest false e = rest

-- a routine has another block than one inside it
other-owner : (r x : Routine) (o : Owner) → IsNamedByKey r → IsNamedByKey x → StandsBelow r.place x → StandsUnder (key_of r.owner) x → r.owner ≡ o → x.owner ≡ o → ⊥
other-owner r x (Placed z) a b below under e f =
    true≢false (sym below ∙ (λ i. is_below (a.placed z e i) (b.placed z f i)) ∙ not-itself z)
other-owner r x (Keyed k) a b below under e f =
    let y = under k f in
    let same : y.0 ≡ k = ap (key_or y.0) (sym y.3) ∙ ap (λ (o : Owner). key_or y.0 (key_of o)) e in
    key-longer y.0 y.1 y.2 (same ∙ y.4)

abbrev IsOther : Routine → Routine → Type 0
IsOther r x = same_owner x.owner r.owner ≡ false

inside-other : (t : Plain) (r : Routine) → IsProper t → IsOneOf (routines_of t) r → Each (IsOther r) (inside r (routines_of t))
inside-other t r proper i =
    let s = each-one (IsSpreadIn t) (routines_of t) r i (routines-spread t) in
    let under = subst (Each (StandsUnder (key_of r.owner))) (sym s.2) (differ-below r 1 s.0 (spread-well t r.place s.0 proper s.1)).1 in
    let named = inside-each IsNamedByKey r (routines_of t) (routines-named t) in
    let own = each-one IsNamedByKey (routines_of t) r i (routines-named t) in
    each-map (λ x. (IsNamedByKey x × StandsBelow r.place x) × StandsUnder (key_of r.owner) x) (IsOther r) (inside r (routines_of t))
    (λ x h. false_from_ne_true (same_owner x.owner r.owner) (λ e. other-owner r x r.owner own h.0.0 h.0.1 h.1 refl (same_owner-equal x.owner r.owner e)))
    (each-both (λ x. IsNamedByKey x × StandsBelow r.place x) (StandsUnder (key_of r.owner)) (inside r (routines_of t)) named under)

-- ---- what they touch

among-append : (vs us : List (Owner × List ℕ)) (o : Owner) (n : List ℕ) → stands_among (vs ++ us) o n ≡ (stands_among vs o n || stands_among us o n)
among-append [] us o n = refl
among-append (v ∷ vs) us o n = ap (λ (b : Bool). (same_owner v.0 o && bytes_eq v.1 n) || b) (among-append vs us o n) ∙ either (same_owner v.0 o && bytes_eq v.1 n) where
  either : (b : Bool) → (b || (stands_among vs o n || stands_among us o n)) ≡ ((b || stands_among vs o n) || stands_among us o n)
  either true = refl
  either false = refl

others-touch : (all rs : List Routine) (o : Owner) (n : List ℕ) → Each (λ x. same_owner x.owner o ≡ false) rs → touched_by_others all rs o n ≡ stands_among (touches_of all rs) o n
others-touch all [] o n h = refl
others-touch all (x ∷ xs) o n h =
    ap (λ (b : Bool). (not b && stands_among (all_touches (nodes (decorate (quiet all x) (start_of x) x.block))) o n) || touched_by_others all xs o n) h.0
    ∙ ap (λ (b : Bool). stands_among (all_touches (nodes (decorate (quiet all x) (start_of x) x.block))) o n || b) (others-touch all xs o n h.1)
    ∙ sym (among-append (all_touches (nodes (decorate (quiet all x) (start_of x) x.block))) (touches_of all xs) o n)

touched-law : TouchedLaw
touched-law t r n proper program i block =
    touches-law t r n proper program i block ∙ others-touch (routines_of t) (inside r (routines_of t)) r.owner n (inside-other t r proper i)

touched-below : TouchedBelowLaw
touched-below t x r n proper program i block e =
    touched-law t r n proper program i block ∙ ap (λ (rs : List Routine). stands_among (touches_of (routines_of t) rs) r.owner n) (below-law t x r i e)

joined-law : JoinedLaw
joined-law all [] rs = refl
joined-law all (q ∷ qs) rs =
    let own : List (Owner × List ℕ) = all_touches (nodes (decorate (quiet all q) (start_of q) q.block)) in
    ap (λ (us : List (Owner × List ℕ)). own ++ us) (joined-law all qs rs) ∙ sym (append_assoc own (touches_of all qs) (touches_of all rs))

pub inside-law : InsideLaw
inside-law = record { below = below-law; touched = touched-law; touched_below = touched-below; joined = joined-law }
