-- What is found in a routine stays where only the statement part of another routine changes that isn't inside it.
use Rattle.std.specs.Prelude.{ℕ, ◌≡◌, ◌⊎◌, Bool, true, false, not, ◌&&◌, ◌||◌, if◌then◌else◌, List, [], ◌∷◌, Option, Some, None, ◌++◌}
use Rattle.std.specs.Str.{bytes_eq}
use Rattle.std.proofs.Common.{refl, ap, sym, subst, ◌∙◌, true≢false, inl, inr}
use Rattle.std.proofs.lemmas.Bool.{and_parts}
use Rattle.pc_syntax.specs.Plain.{Forest, Nil, Cons, Plain}
use Rattle.pc_syntax.specs.WellFormed.{IsProper}
use Rattle.pc_types.specs.Sameness.{same_owner}
use Rattle.pc_types.specs.Shapes.{Owner}
use Rattle.pc_scope.specs.Headings.{ends_forward}
use Rattle.pc_rules.specs.Attributes.{at_kid, Marked, nodes}
use Rattle.pc_rules.specs.Decorated.{decorate}
use Rattle.pc_rules.specs.Errors.{own_entries, is_program}
use Rattle.pc_rules.specs.ForStatements.{stands_among}
use Rattle.pc_rules.specs.HandedOn.{all_touches, kid_entries}
use Rattle.pc_rules.specs.Headings.{heading_entries, signature_in}
use Rattle.pc_rules.specs.Law.{SameFound}
use Rattle.pc_rules.specs.Meanings.{Found, Here, Signature, is_routine_class}
use Rattle.pc_rules.specs.Outsides.{completed_by, quiet, outside_of, signature_named, touched_by_others}
use Rattle.pc_rules.specs.RoutineList.{routines_of}
use Rattle.pc_rules.specs.Routines.{Routine, heading_marks, start_of}
use Rattle.pc_needs.specs.Answers.{has_block}
use Rattle.pc_needs.specs.Bodies.{HaveOneFrame, AreTwins, AllTwins, FrameLaw, SameBlocksBut, IsElsewhere, PlacedLaw, ElsewhereLaw}
use Rattle.pc_needs.specs.Inside.{is_below, inside}
use Rattle.pc_needs.specs.Unaffected.{IsOneOf, SameForward, SameRoutine}
use Rattle.pc_needs.specs.UsedNames.{is_nil, stands_forward, first_forward, forward_of}
use Rattle.pc_needs.proofs.BodyTwins.{AreLike, AllLike, hollow, like-routines}
use Rattle.pc_needs.proofs.InsideLemmas.{touches-law}
use Rattle.pc_needs.proofs.PlacesApart.{places-law}

-- ---- two programs with one frame

-- routines that are like a third are like each other
like-both : (h r s : Routine) → AreLike h r → AreLike h s → AreLike r s
like-both h r s x y = record {
  same = ap (λ (z : Routine). record z { block = s.block }) (sym x.same) ∙ y.same;
  declared = sym x.declared ∙ y.declared;
  nil = sym x.nil ∙ y.nil;
  blank = y.blank;
}

all-both : (hs rs ss : List Routine) → AllLike hs rs → AllLike hs ss → AllLike rs ss
all-both [] [] [] x y = tt
all-both [] [] (s ∷ ss) x y = absurd y
all-both [] (r ∷ rs) ss x y = absurd x
all-both (h ∷ hs) [] ss x y = absurd x
all-both (h ∷ hs) (r ∷ rs) [] x y = absurd y
all-both (h ∷ hs) (r ∷ rs) (s ∷ ss) x y = (like-both h r s x.0 y.0, all-both hs rs ss x.1 y.1)

hollow-same : (t u : Plain) → HaveOneFrame t u → routines_of (hollow t) ≡ routines_of (hollow u)
unfolding routines_of
hollow-same t u f = λ i. routines_of (record t { kids = f.kids i })

like-frames : (t u : Plain) → IsProper t → IsProper u → is_program t.kind ≡ true → HaveOneFrame t u → AllLike (routines_of t) (routines_of u)
like-frames t u proper_t proper_u e f =
    let d : is_program u.kind ≡ true = ap is_program (sym f.kind) ∙ e in
    all-both (routines_of (hollow t)) (routines_of t) (routines_of u) (like-routines t proper_t e)
    (subst (λ (rs : List Routine). AllLike rs (routines_of u)) (sym (hollow-same t u f)) (like-routines u proper_u d))

twins : (rs ss : List Routine) → AllLike rs ss → AllTwins rs ss
twins [] [] h = tt
twins [] (s ∷ ss) h = h
twins (r ∷ rs) [] h = h
twins (r ∷ rs) (s ∷ ss) h = (h.0.same, twins rs ss h.1)

pub frame-law : FrameLaw
frame-law t u proper_t proper_u e f = twins (routines_of t) (routines_of u) (like-frames t u proper_t proper_u e f)

-- ---- what is found outside a block

-- two routines that are like each other, with one block, are one
one-routine : (r s : Routine) → AreTwins r s → r.block ≡ s.block → r ≡ s
one-routine r s h e = (λ i. record r { block = e i }) ∙ h

-- parameters and results
signatures : (rs ss : List Routine) → AllLike rs ss → (o : Owner) (n : List ℕ) → signature_named rs o n ≡ signature_named ss o n
unfolding heading_marks
signatures [] [] h o n = refl
signatures [] (s ∷ ss) h o n = absurd h
signatures (r ∷ rs) [] h o n = absurd h
signatures (r ∷ rs) (s ∷ ss) h o n =
    (λ i. signature_named (h.0.same i ∷ rs) o n)
    ∙ ap (λ (x : Option Signature). if same_owner s.parent o && s.is_first && bytes_eq s.name n then signature_in s else x) (signatures rs ss h.1 o n)

-- so routines around complete a meaning in the same way
completes : (rs ss : List Routine) → AllLike rs ss → (n : List ℕ) (f : Found) → completed_by rs n f ≡ completed_by ss n f
completes rs ss h n (Here m) = λ i. Here (if is_routine_class m.class then record m { signature = signatures rs ss h m.owner n i } else m)
completes rs ss h n f = refl

quiets : (rs ss : List Routine) → AllLike rs ss → (r : Routine) → quiet rs r ≡ quiet ss r
quiets rs ss h r = λ i. record { means = λ n. completes rs ss h n (r.means n) i; heading = λ n. signatures rs ss h r.owner n i; touched = λ n. false }

-- ---- which routines inside touch a variable

-- blocks of routines inside a place are the same
abbrev SameInside : List ℕ → List Routine → List Routine → Type 0
SameInside p [] [] = Unit {0}
SameInside p [] (s ∷ ss) = ⊥
SameInside p (r ∷ rs) [] = ⊥
SameInside p (r ∷ rs) (s ∷ ss) = (is_below p r.place ≡ true → r.block ≡ s.block) × SameInside p rs ss

-- what one adds
abbrev touches : List Routine → Routine → Owner → List ℕ → Bool
touches all x o n = not (same_owner x.owner o) && stands_among (all_touches (nodes (decorate (quiet all x) (start_of x) x.block))) o n

inside-touch : (all ones : List Routine) → AllLike all ones → (r : Routine) (rs ss : List Routine) (o : Owner) (n : List ℕ) → AllLike rs ss → SameInside r.place rs ss →
    touched_by_others all (inside r rs) o n ≡ touched_by_others ones (inside r ss) o n
inside-touch all ones a r [] [] o n h e = refl
inside-touch all ones a r [] (s ∷ ss) o n h e = absurd h
inside-touch all ones a r (x ∷ rs) [] o n h e = absurd h
inside-touch all ones a r (x ∷ rs) (s ∷ ss) o n h e =
    by (inside-touch all ones a r rs ss o n h.1 e.1) (is_below r.place x.place) refl ∙
    (λ i. touched_by_others ones (if is_below r.place (h.0.same i).place then s ∷ inside r ss else inside r ss) o n) where
      by : touched_by_others all (inside r rs) o n ≡ touched_by_others ones (inside r ss) o n → (b : Bool) → is_below r.place x.place ≡ b →
          touched_by_others all (if b then x ∷ inside r rs else inside r rs) o n ≡ touched_by_others ones (if b then s ∷ inside r ss else inside r ss) o n
      by rest true q =
          let one = one-routine x s h.0.same (e.0 q) in
          (λ i. touches all (one i) o n || touched_by_others all (inside r rs) o n)
          ∙ (λ i. (not (same_owner s.owner o) && stands_among (all_touches (nodes (decorate (quiets all ones a s i) (start_of s) s.block))) o n) || rest i)
      by rest false q = rest

-- ---- the routine

-- what is found in its block, where what the block has from outside is the same or there is no block
found-from : (rs ss : List Routine) (r : Routine) → decorate (outside_of rs r) (start_of r) r.block ≡ decorate (outside_of ss r) (start_of r) r.block → SameFound rs ss r r
unfolding own_entries
found-from rs ss r e = record { entries = ap (λ (m : Marked). heading_entries r ++ at_kid r.block_kid (kid_entries 1 (nodes m))) e; marks = e }

blank-found : (rs ss : List Routine) (r : Routine) → r.block ≡ Nil → decorate (outside_of rs r) (start_of r) r.block ≡ decorate (outside_of ss r) (start_of r) r.block
unfolding decorate
blank-found rs ss r e = ap (decorate (outside_of rs r) (start_of r)) e ∙ ap (decorate (outside_of ss r) (start_of r)) (sym e)

outside-found : (rs ss : List Routine) (r : Routine) → AllLike rs ss → ((n : List ℕ) → touched_by_others rs rs r.owner n ≡ touched_by_others ss ss r.owner n) →
    decorate (outside_of rs r) (start_of r) r.block ≡ decorate (outside_of ss r) (start_of r) r.block
unfolding outside_of
outside-found rs ss r h t = λ i.
    decorate (record { means = λ n. completes rs ss h n (r.means n) i; heading = λ n. signatures rs ss h r.owner n i; touched = λ n. t n i }) (start_of r) r.block

-- forward headings have no block, so they are the same
forward-same : (all ones : List Routine) → (rs ss : List Routine) (o : Owner) → AllLike rs ss → SameForward all ones (first_forward rs o) (first_forward ss o)
forward-same all ones [] [] o h = tt
forward-same all ones [] (s ∷ ss) o h = absurd h
forward-same all ones (r ∷ rs) [] o h = absurd h
forward-same all ones (r ∷ rs) (s ∷ ss) o h =
    subst (λ (b : Bool). SameForward all ones (first_forward (r ∷ rs) o) (if b then Some s else first_forward ss o)) same
    (by (forward-same all ones rs ss o h.1) (same_owner r.owner o && stands_forward r) refl) where
      same : (same_owner r.owner o && stands_forward r) ≡ (same_owner s.owner o && stands_forward s)
      same = λ i. same_owner (h.0.same i).owner o && (ends_forward (h.0.same i).heading && h.0.nil i)

      nil : (f : Forest) → is_nil f ≡ true → f ≡ Nil
      nil Nil e = refl
      nil (Cons k w ns ks ts) e = absurd (true≢false (sym e))

      by : SameForward all ones (first_forward rs o) (first_forward ss o) → (b : Bool) → (same_owner r.owner o && stands_forward r) ≡ b →
          SameForward all ones (if b then Some r else first_forward rs o) (if b then Some s else first_forward ss o)
      by rest true e =
          let none : r.block ≡ Nil = nil r.block (and_parts (ends_forward r.heading) (is_nil r.block) (and_parts (same_owner r.owner o) (stands_forward r) e).1).1 in
          let one : r ≡ s = one-routine r s h.0.same (none ∙ sym (nil s.block (sym h.0.nil ∙ ap is_nil none))) in
          subst (λ (x : Routine). SameFound all ones r x) one (found-from all ones r (blank-found all ones r none))
      by rest false e = rest

-- ---- the law

-- two routines, one in each list, at one number
abbrev ArePaired : List Routine → List Routine → Routine → Routine → Type 0
ArePaired [] ss r s = ⊥
ArePaired (x ∷ xs) [] r s = ⊥
ArePaired (x ∷ xs) (y ∷ ys) r s = ((x ≡ r) × (y ≡ s)) ⊎ ArePaired xs ys r s

-- what a routine has in the other list
record HasTwin (ss : List Routine) (q : List ℕ) (r : Routine) : Type 0 where
  twin : Routine
  among : IsOneOf ss twin
  like : AreLike r twin
  block : (r.place ≡ q) ⊎ (r.block ≡ twin.block)

find-twin : (rs ss : List Routine) (q : List ℕ) (r : Routine) → AllLike rs ss → SameBlocksBut q rs ss → IsOneOf rs r → HasTwin ss q r
find-twin [] ss q r h b i = absurd i
find-twin (x ∷ rs) [] q r h b i = absurd h
find-twin (x ∷ rs) (s ∷ ss) q r h b (inl e) =
    subst (λ (y : Routine). HasTwin (s ∷ ss) q y) e (record { twin = s; among = inl refl; like = h.0; block = b.0 })
find-twin (x ∷ rs) (s ∷ ss) q r h b (inr i) = let t = find-twin rs ss q r h.1 b.1 i in record { twin = t.twin; among = inr t.among; like = t.like; block = t.block }

-- inside a routine nothing differs, where what differs isn't inside
same-inside : (rs ss : List Routine) (q p : List ℕ) → AllLike rs ss → SameBlocksBut q rs ss → is_below p q ≡ false → SameInside p rs ss
same-inside [] [] q p h b e = tt
same-inside [] (s ∷ ss) q p h b e = absurd h
same-inside (r ∷ rs) [] q p h b e = absurd h
same-inside (r ∷ rs) (s ∷ ss) q p h b e = (by b.0, same-inside rs ss q p h.1 b.1 e) where
  by : (r.place ≡ q) ⊎ (r.block ≡ s.block) → is_below p r.place ≡ true → r.block ≡ s.block
  by (inl x) below = absurd (true≢false (sym below ∙ ap (is_below p) x ∙ e))
  by (inr x) below = x

module _ (t u : Plain) (proper_t : IsProper t) (proper_u : IsProper u) (program : is_program t.kind ≡ true) (r x : Routine) (in_t : IsOneOf (routines_of t) r) (in_u : IsOneOf (routines_of u) r)
    (e : IsElsewhere t u r x) where
  all-like : AllLike (routines_of t) (routines_of u)
  all-like = like-frames t u proper_t proper_u program e.differ.frame

  program_u : is_program u.kind ≡ true
  program_u = ap is_program (sym e.differ.frame.kind) ∙ program

  same-touched : has_block r.heading ≡ true → (n : List ℕ) → touched_by_others (routines_of t) (routines_of t) r.owner n ≡ touched_by_others (routines_of u) (routines_of u) r.owner n
  same-touched b n =
      touches-law t r n proper_t program in_t b ∙
      inside-touch (routines_of t) (routines_of u) all-like r (routines_of t) (routines_of u) r.owner n all-like
      (same-inside (routines_of t) (routines_of u) x.place r.place all-like e.differ.blocks e.outside) ∙
      sym (touches-law u r n proper_u program_u in_u b)

  same-marks : (has_block r.heading ≡ false → r.block ≡ Nil) → decorate (outside_of (routines_of t) r) (start_of r) r.block ≡ decorate (outside_of (routines_of u) r) (start_of r) r.block
  same-marks blank = by (has_block r.heading) refl where
    by : (b : Bool) → has_block r.heading ≡ b → decorate (outside_of (routines_of t) r) (start_of r) r.block ≡ decorate (outside_of (routines_of u) r) (start_of r) r.block
    by true b = outside-found (routines_of t) (routines_of u) r all-like (same-touched b)
    by false b = blank-found (routines_of t) (routines_of u) r (blank b)

  same-forward : SameForward (routines_of t) (routines_of u) (forward_of (routines_of t) r) (forward_of (routines_of u) r)
  unfolding forward_of
  same-forward = by r.is_later where
    by : (b : Bool) → SameForward (routines_of t) (routines_of u) (if b then first_forward (routines_of t) r.owner else None) (if b then first_forward (routines_of u) r.owner else None)
    by true = forward-same (routines_of t) (routines_of u) (routines_of t) (routines_of u) r.owner all-like
    by false = tt

  same-routine : (has_block r.heading ≡ false → r.block ≡ Nil) → SameRoutine (routines_of t) (routines_of u) r r
  same-routine blank = record { declaration = found-from (routines_of t) (routines_of u) r (same-marks blank); forward = same-forward }

pub elsewhere-law : ElsewhereLaw
elsewhere-law t u r s x proper_t proper_u program in_t in_u place e =
    let twin = find-twin (routines_of t) (routines_of u) x.place r (like-frames t u proper_t proper_u program e.differ.frame) e.differ.blocks in_t in
    let at : twin.twin.place ≡ r.place = sym (ap (λ (y : Routine). y.place) twin.like.same) in
    let is_twin : s ≡ twin.twin = places-law u s twin.twin in_u twin.among (place ∙ sym at) in
    let block : r.block ≡ twin.twin.block = elim twin.block [ inl q ↦ absurd (e.other (sym q)) | inr q ↦ q ] in
    let one : r ≡ s = one-routine r twin.twin twin.like.same block ∙ sym is_twin in
    let blank : has_block r.heading ≡ false → r.block ≡ Nil = λ b. block ∙ twin.like.blank (ap (λ (y : Routine). has_block y.heading) (sym twin.like.same) ∙ b) in (
      subst (λ (y : Routine). SameRoutine (routines_of t) (routines_of u) r y) one
          (same-routine t u proper_t proper_u program r x in_t (subst (λ (y : Routine). IsOneOf (routines_of u) y) (sym one) in_u) e blank),
      one,
    )

-- in one program a routine is the same
itself : (rs : List Routine) (r : Routine) → SameRoutine rs rs r r
itself rs r = record { declaration = record { entries = refl; marks = refl }; forward = by (forward_of rs r) } where
  by : (f : Option Routine) → SameForward rs rs f f
  by None = tt
  by (Some f) = record { entries = refl; marks = refl }

pub placed-law : PlacedLaw
placed-law t u r s p proper_t proper_u program in_t in_u owner place (inl e) =
    let one : s ≡ r = places-law t s r (subst (λ (y : Plain). IsOneOf (routines_of y) s) (sym e) in_u) in_t place in
    subst (λ (y : Plain). SameRoutine (routines_of t) (routines_of y) r s) e (subst (λ (y : Routine). SameRoutine (routines_of t) (routines_of t) r y) (sym one) (itself (routines_of t) r))
placed-law t u r s p proper_t proper_u program in_t in_u owner place (inr e) = (elsewhere-law t u r s e.0 proper_t proper_u program in_t in_u place e.1).0
