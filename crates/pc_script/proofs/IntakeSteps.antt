-- What one byte more does to the bytes ahead.
use Rattle.std.proofs.Math.Nat.{sub-zero}
use Rattle.std.proofs.Common.{if◌then◌else◌, ◌≡◌, ℕ, ◌+◌, ◌-◌, ◌<◌, ◌≤◌, suc, Bool, true, false, eqb, leb, ltb, ◌||◌, List, [], ◌∷◌, ◌++◌, length, get_or, take, Option, refl, sym, ap, arith, subst}
use Rattle.std.proofs.Math.Seq.{take-nil}
use Rattle.std.proofs.lemmas.List.{drop_more}
use Rattle.std.proofs.lemmas.Bool.Decides.{nat_tests}
use Rattle.std.specs.List.{onto_first, concat}
use Rattle.std.specs.Io.KnownBytes.{Consumes, Keeps, IsAtEnd}
use Rattle.std.proofs.KnownBytes.{Consumes-nil, Consumes-kept}
use Rattle.pc_script.specs.Ahead.{Ahead, or_more, Takes, IsSame}
use Rattle.pc_script.specs.Reading.{Reading, MayCome, Took, Fails}
use Rattle.pc_script.proofs.ReadingSteps.{Took-none}
use Rattle.pc_script.specs.Script.{unit_length, units, within}
use Rattle.pc_script.specs.Intake.{part_of, bytes_after}
use Rattle.pc_script.specs.declared.ahead.Next.TheVariants.{Item, End, TooMany}

-- x comes first of a, and b is the rest
pub record Heads {X : Type 0} (a : Ahead X) (x : X) (b : Ahead X) : Type 0 where
  pub items : a.items ≡ x ∷ b.items
  pub further : b.further ≡ a.further

concat-onto_first : (l b : ℕ) (us : List (List ℕ)) → concat (take (suc l) (onto_first b us)) ≡ b ∷ concat (take (suc l) us)
concat-onto_first l b [] = rw (take-nil l) refl
concat-onto_first l b (u ∷ us) = refl

lt-onto_first : (l b : ℕ) (us : List (List ℕ)) → ltb (suc l) (length us) ≡ ltb (suc l) (length (onto_first b us))
lt-onto_first l b [] = grind (arith, nat_tests)
lt-onto_first l b (u ∷ us) = refl

ends_unit : (l room b : ℕ) (bs : List ℕ) → (eqb b 10 || leb room 1) ≡ true → Heads (within (suc l) room (b ∷ bs)) b (within l unit_length bs)
unfolding within units
ends_unit l room b bs e = rw e (record { items = refl; further = grind (arith, nat_tests) })

in_unit : (l room b : ℕ) (bs : List ℕ) → (eqb b 10 || leb room 1) ≡ false → Heads (within (suc l) room (b ∷ bs)) b (within (suc l) (room - 1) bs)
unfolding within units
in_unit l room b bs e = rw e (record { items = concat-onto_first l b _; further = lt-onto_first l b _ })

pub within-ends_unit : (left room b : ℕ) (bs : List ℕ) → 0 < left → (eqb b 10 || leb room 1) ≡ true → Heads (within left room (b ∷ bs)) b (within (left - 1) unit_length bs)
within-ends_unit left room b bs some e =
    let is : left ≡ suc (left - 1) = omega arith in
    let P : ℕ → Type 0 = λ n. Heads (within n room (b ∷ bs)) b (within (left - 1) unit_length bs) in
    subst P (sym is) (ends_unit (left - 1) room b bs e)

pub within-in_unit : (left room b : ℕ) (bs : List ℕ) → 0 < left → (eqb b 10 || leb room 1) ≡ false → Heads (within left room (b ∷ bs)) b (within left (room - 1) bs)
within-in_unit left room b bs some e =
    let is : left ≡ suc (left - 1) = omega arith in
    let P : ℕ → Type 0 = λ n. Heads (within n room (b ∷ bs)) b (within n (room - 1) bs) in
    subst P (sym is) (in_unit (left - 1) room b bs e)

within-nil : (left room : ℕ) → ((within left room []).items ≡ []) × ((within left room []).further ≡ false)
unfolding within units
within-nil left room = (rw (take-nil left) refl, grind (arith, nat_tests))

length-onto_first : (b : ℕ) (us : List (List ℕ)) → 0 < length (onto_first b us)
length-onto_first b [] = omega arith
length-onto_first b (u ∷ us) = omega arith

some_unit : (room b : ℕ) (bs : List ℕ) → 0 < length (units room (b ∷ bs))
unfolding units
some_unit room b bs = elim (eqb b 10 || leb room 1) as (λ t. 0 < length (if t then (b ∷ []) ∷ units unit_length bs else onto_first b (units (room - 1) bs))) [ true ↦ omega arith | false ↦ length-onto_first b _ ]

within-zero : (room b : ℕ) (bs : List ℕ) → ((within 0 room (b ∷ bs)).items ≡ []) × ((within 0 room (b ∷ bs)).further ≡ true)
unfolding within
within-zero room b bs = let some = some_unit room b bs in (refl, grind (arith, nat_tests, some))

pub part_of-none : (buffer : List ℕ) (start end : ℕ) → end ≤ start → part_of buffer start end ≡ []
unfolding part_of
part_of-none buffer start end none =
    let is : end - start ≡ 0 = omega arith in
    rw is refl

pub part_of-cons : (buffer : List ℕ) (start end : ℕ) → start < end → end ≤ length buffer →
    part_of buffer start end ≡ get_or buffer start 0 ∷ part_of buffer (start + 1) end
unfolding part_of
part_of-cons buffer start end some fits =
    let is : end - start ≡ suc (end - (start + 1)) = omega arith in
    rw (is, drop_more buffer start 0 (omega arith)) refl

or-true : (more : Bool) → (more || true) ≡ true
or-true true = refl
or-true false = refl

-- Nothing is pending.
pub bytes_after-none : (units room : ℕ) (pending rest : List ℕ) (more : Bool) → pending ≡ [] → bytes_after units room pending rest more ≡ or_more more (within units room rest)
unfolding bytes_after
bytes_after-none units room pending rest more none = rw none refl

-- What was pending and what was read, and then the rest, is what is pending now, and then the rest.
bytes_after-read : (units room : ℕ) (old bytes rest : List ℕ) (more : Bool) → old ≡ [] → bytes_after units room bytes rest more ≡ bytes_after units room old (bytes ++ rest) more
unfolding bytes_after
bytes_after-read units room old bytes rest more none = rw none refl

part_of-read : (buffer : List ℕ) (n : ℕ) → part_of buffer 0 n ≡ take n buffer
unfolding part_of
part_of-read buffer n = rw sub-zero refl

-- A reading of bytes.
abbrev pub bytes_read : Option (List ℕ) → Bool → ℕ → ℕ → List ℕ → Reading ℕ
bytes_read left ended units room pending = record { left = left; ended = ended; ahead = bytes_after units room pending }

-- A read fills an empty buffer.
pub Took-read : (units room n : ℕ) (old buffer : List ℕ) (before after : Option (List ℕ)) → old ≡ [] →
    Consumes before after (take n buffer) → (n ≡ 0 → IsAtEnd after) →
    Took (bytes_read before false units room old) (bytes_read after (eqb n 0) units room (part_of buffer 0 n)) IsSame
Took-read units room n old buffer before after empty consumed at_end = record {
  taken = take n buffer;
  consumed = consumed;
  may = λ rest more m. tt;
  met = λ before_end is. at_end (grind (arith, nat_tests));
  step = λ rest more m. rw (part_of-read buffer n) (bytes_after-read units room old (take n buffer) rest more empty);
}

-- A read fails where nothing is pending.
pub Fails-read : (units room : ℕ) (old : List ℕ) (before after : Option (List ℕ)) → old ≡ [] → Keeps before after →
    Fails (bytes_read before false units room old) after
unfolding bytes_after
Fails-read units room old before after empty kept = record {
  taken = [];
  consumed = Consumes-kept before before after [] (Consumes-nil before) kept;
  may = tt;
  none = rw empty ((within-nil units room).0, refl);
}

-- The end was met, and nothing is pending.
Takes-end : (units room : ℕ) (pending rest : List ℕ) (more : Bool) → pending ≡ [] → MayCome true rest more →
    Takes End (bytes_after units room pending rest more) (bytes_after units room pending rest more)
unfolding bytes_after
Takes-end units room pending rest more none m =
    let z = within-nil units room in
    rw (none, m.0, m.1) (z, z)

pub Took-end : (units room : ℕ) (pending : List ℕ) (left : Option (List ℕ)) (ended : Bool) → pending ≡ [] → ended ≡ true →
    Took (bytes_read left ended units room pending) (bytes_read left ended units room pending) (Takes End)
Took-end units room pending left ended none is =
    Took-none _ _ (Takes End) refl refl (λ rest more m. Takes-end units room pending rest more none (rw is at m))

Takes-too_many : (room byte : ℕ) (pending bytes rest : List ℕ) (more : Bool) → pending ≡ byte ∷ bytes →
    Takes TooMany (bytes_after 0 room pending rest more) (bytes_after 0 room pending rest more)
unfolding bytes_after
Takes-too_many room byte pending bytes rest more is =
    let z = within-zero room byte (bytes ++ rest) in
    let further : (more || (within 0 room (byte ∷ bytes ++ rest)).further) ≡ true = rw z.1 (or-true more) in
    rw is ((z.0, further), (z.0, further))

-- The units are taken, and a further byte is pending.
pub Took-too_many : (units room byte : ℕ) (pending bytes : List ℕ) (left : Option (List ℕ)) (ended : Bool) → units ≡ 0 → pending ≡ byte ∷ bytes →
    Took (bytes_read left ended units room pending) (bytes_read left ended units room pending) (Takes TooMany)
Took-too_many units room byte pending bytes left ended none is =
    rw none (Took-none _ _ (Takes TooMany) refl refl (λ rest more m. Takes-too_many room byte pending bytes rest more is))

Takes-item : (units room units' room' byte : ℕ) (pending bytes rest : List ℕ) (more : Bool) → pending ≡ byte ∷ bytes →
    Heads (within units room (byte ∷ bytes ++ rest)) byte (within units' room' (bytes ++ rest)) →
    Takes (Item byte) (bytes_after units room pending rest more) (bytes_after units' room' bytes rest more)
unfolding bytes_after
Takes-item units room units' room' byte pending bytes rest more is h = rw is (h.items, ap (λ f. more || f) h.further)

-- A byte that is pending is taken.
pub Took-item : (units room units' room' byte : ℕ) (pending bytes : List ℕ) (left : Option (List ℕ)) (ended : Bool) → pending ≡ byte ∷ bytes →
    ((bs : List ℕ) → Heads (within units room (byte ∷ bs)) byte (within units' room' bs)) →
    Took (bytes_read left ended units room pending) (bytes_read left ended units' room' bytes) (Takes (Item byte))
Took-item units room units' room' byte pending bytes left ended is h =
    Took-none _ _ (Takes (Item byte)) refl refl (λ rest more m. Takes-item units room units' room' byte pending bytes rest more is (h (bytes ++ rest)))
