-- What the bytes of a line do to the lines ahead.
use Rattle.std.proofs.Common.{if◌then◌else◌, ◌≡◌, ◌≢◌, ℕ, ◌+◌, ◌-◌, ◌<◌, ◌≤◌, zero, suc, Bool, true, false, eqb, List, [], ◌∷◌, ◌++◌, length, get_or, take, Option, refl, sym, ap, ◌∙◌, arith, inl, inr, append_assoc}
use Rattle.std.proofs.Math.Seq.{take-nil}
use Rattle.std.proofs.lemmas.List.{take-take, take_all, take-append-le, length-take, length-append, length-take-le, append-nil}
use Rattle.std.proofs.lemmas.List.Elements.{All-push, All-nil}
use Rattle.std.proofs.lemmas.List.Splits.{slice_split_at, slice_split_none, length-slice_split}
use Rattle.std.proofs.lemmas.Bool.Decides.{nat_tests}
use Rattle.std.proofs.lemmas.Bool.{cases_lt}
use Rattle.std.specs.List.{All, slice_split}
use Rattle.std.specs.Str.Lines.{strip_carriage_return, lines_of_parts}
use Rattle.pc_script.specs.Ahead.{Ahead, Takes, IsDone, IsCutOff}
use Rattle.pc_script.specs.Reading.{Reading, Took, Took-more, Fails, over}
use Rattle.pc_script.proofs.ReadingSteps.{Took-none, Took-then, Fails-then}
use Rattle.pc_command.specs.Form.{line_limit}
use Rattle.pc_script.specs.Script.{shortened, lines_ahead, ended_lines_of_parts}
use Rattle.pc_script.specs.declared.ahead.Next.TheVariants.{Item, End, TooMany}

-- These bytes came.
abbrev pub Passed : List ℕ → Ahead ℕ → Ahead ℕ → Type 0
Passed raw a b = (a.items ≡ raw ++ b.items) × (b.further ≡ a.further)

abbrev pub is_newline : ℕ → Bool
is_newline b = eqb b 10

-- The bytes that came since old hold no line feed, and as much of them as is looked at is the line so far.
pub record Gathered (old new : Reading ℕ) (line : List ℕ) : Type 0 where
  pub raw : List ℕ
  pub plain : All (λ b. is_newline b ≡ false) raw
  pub kept : line ≡ take (line_limit + 2) raw
  pub passed : Took old new (Passed raw)

pub Gathered-nil : (a : Reading ℕ) → Gathered a a []
Gathered-nil a = record {
  raw = [];
  plain = All-nil (λ b. is_newline b ≡ false);
  kept = sym (take-nil (line_limit + 2));
  passed = Took-none a a (Passed []) refl refl (λ rest more m. (refl, refl));
}

passed-more : (raw : List ℕ) (byte : ℕ) (a b c : Ahead ℕ) → Passed raw a b → Takes (Item byte) b c → Passed (raw ++ byte ∷ []) a c
passed-more raw byte a b c p t = (rw (p.0, t.0, append_assoc) refl, t.1 ∙ p.1)

take-take-append : (n : ℕ) (xs ys : List ℕ) → take n (take n xs ++ ys) ≡ take n (xs ++ ys)
take-take-append zero xs ys = refl
take-take-append (suc n) [] ys = refl
take-take-append (suc n) (x ∷ xs) ys = ap (λ l. x ∷ l) (take-take-append n xs ys)

pub Gathered-more : (a b c : Reading ℕ) (line new : List ℕ) (byte : ℕ) → Gathered a b line → Took b c (Takes (Item byte)) → byte ≢ 10 →
    new ≡ take (line_limit + 2) (line ++ byte ∷ []) → Gathered a c new
Gathered-more a b c line new byte g t other is = record {
  raw = g.raw ++ byte ∷ [];
  plain = All-push (λ b. is_newline b ≡ false) g.raw byte g.plain (grind (arith, nat_tests));
  kept = rw (is, g.kept) (take-take-append (line_limit + 2) g.raw (byte ∷ []));
  passed = Took-more a b c (Passed g.raw) (Takes (Item byte)) (Passed (g.raw ++ byte ∷ [])) g.passed t (passed-more g.raw byte);
}

-- A carriage return at the end doesn't stand among the first bytes.
take-strip : (n : ℕ) (xs : List ℕ) → n < length xs → take n (strip_carriage_return xs) ≡ take n xs
take-strip n xs below = elim (eqb (get_or xs (length xs - 1) 0) 13) as (λ t. take n (if t then take (length xs - 1) xs else xs) ≡ take n xs) [
  | true ↦ take-take n (length xs - 1) xs (omega arith)
  | false ↦ refl
]

shortened-kept : (n m : ℕ) (raw : List ℕ) → m ≡ n + 1 → take n (strip_carriage_return (take m raw)) ≡ take n (strip_carriage_return raw)
shortened-kept n m raw is = elim (cases_lt m (length raw)) [
  | inl more ↦
      let len = length-take-le m raw (omega arith) in
      take-strip n (take m raw) (omega arith) ∙ take-take n m raw (omega arith) ∙ sym (take-strip n raw (omega arith))
  | inr all ↦ rw (take_all m raw all) refl
]

lines-cons : (x : List ℕ) (parts : List (List ℕ)) → 0 < length parts → lines_of_parts (x ∷ parts) ≡ strip_carriage_return x ∷ lines_of_parts parts
lines-cons x [] some = absurd (omega arith)
lines-cons x (y ∷ more) some = refl

ended_lines-cons : (x : List ℕ) (parts : List (List ℕ)) → 0 < length parts → ended_lines_of_parts (x ∷ parts) ≡ strip_carriage_return x ∷ ended_lines_of_parts parts
unfolding ended_lines_of_parts
ended_lines-cons x [] some = absurd (omega arith)
ended_lines-cons x (y ∷ more) some = refl

lines-of : Bool → List (List ℕ) → List (List ℕ)
lines-of further parts = if further then ended_lines_of_parts parts else lines_of_parts parts

lines_ahead-cons : (f : Bool) (raw rest : List ℕ) → All (λ b. is_newline b ≡ false) raw →
    (lines_ahead (record { items = raw ++ 10 ∷ rest; further = f })).items ≡ shortened (strip_carriage_return raw) ∷ (lines_ahead (record { items = rest; further = f })).items
unfolding lines_ahead
lines_ahead-cons true raw rest plain =
    rw (slice_split_at is_newline raw 10 rest plain refl, ended_lines-cons raw (slice_split is_newline rest) (omega (arith, length-slice_split is_newline rest))) refl
lines_ahead-cons false raw rest plain =
    rw (slice_split_at is_newline raw 10 rest plain refl, lines-cons raw (slice_split is_newline rest) (omega (arith, length-slice_split is_newline rest))) refl

lines_ahead-last : (raw : List ℕ) → All (λ b. is_newline b ≡ false) raw → 0 < length raw →
    (lines_ahead (record { items = raw; further = false })).items ≡ shortened raw ∷ []
unfolding lines_ahead
lines_ahead-last raw plain some =
    let test : eqb (length raw) 0 ≡ false = grind (arith, nat_tests) in
    rw (slice_split_none is_newline raw plain, test) refl

lines_ahead-none : (lines_ahead (record { items = []; further = false })).items ≡ []
unfolding lines_ahead
lines_ahead-none = refl

lines_ahead-open : (raw : List ℕ) → All (λ b. is_newline b ≡ false) raw → (lines_ahead (record { items = raw; further = true })).items ≡ []
unfolding lines_ahead ended_lines_of_parts
lines_ahead-open raw plain = rw (slice_split_none is_newline raw plain) refl

further-lines : (a : Ahead ℕ) → (lines_ahead a).further ≡ a.further
unfolding lines_ahead
further-lines a = refl

pub gather-full : (n : ℕ) (xs : List ℕ) (byte : ℕ) → length xs ≤ n → n ≤ length xs → xs ≡ take n (xs ++ byte ∷ [])
gather-full n xs byte most least = sym (take-append-le n xs (byte ∷ []) least ∙ take_all n xs most)

pub gather-more : (n : ℕ) (xs : List ℕ) (byte : ℕ) → length xs < n → xs ++ byte ∷ [] ≡ take n (xs ++ byte ∷ [])
gather-more n xs byte below = sym (take_all n (xs ++ byte ∷ []) (omega (arith, length-append xs (byte ∷ []))))

takes-line : (raw line : List ℕ) (a b c : Ahead ℕ) → All (λ b. is_newline b ≡ false) raw → line ≡ take (line_limit + 2) raw →
    Passed raw a b → Takes (Item 10) b c → Takes (Item (shortened (strip_carriage_return line))) (lines_ahead a) (lines_ahead c)
takes-line raw line a b c plain kept p t =
    let items : a.items ≡ raw ++ 10 ∷ c.items = rw (p.0, t.0) refl in
    let further : c.further ≡ a.further = t.1 ∙ p.1 in
    let is : a ≡ record { items = raw ++ 10 ∷ c.items; further = c.further } = rw (← items, further) refl in
    (rw (is, kept, shortened-kept (line_limit + 1) (line_limit + 2) raw (omega arith)) (lines_ahead-cons c.further raw c.items plain), further-lines c ∙ further ∙ sym (further-lines a))

-- A line feed ends the line.
pub Took-line : (a b c : Reading ℕ) (line : List ℕ) → Gathered a b line → Took b c (Takes (Item 10)) →
    Took (over lines_ahead a) (over lines_ahead c) (Takes (Item (shortened (strip_carriage_return line))))
Took-line a b c line g t =
    Took-then lines_ahead lines_ahead a b c (Passed g.raw) (Takes (Item 10)) (Takes (Item (shortened (strip_carriage_return line)))) g.passed t
    (λ x y z p q. takes-line g.raw line x y z g.plain g.kept p q)

takes-last : (raw line : List ℕ) (a b c : Ahead ℕ) → All (λ b. is_newline b ≡ false) raw → line ≡ take (line_limit + 2) raw → 0 < length line →
    Passed raw a b → Takes End b c → Takes (Item (shortened line)) (lines_ahead a) (lines_ahead c)
takes-last raw line a b c plain kept some p t =
    let items : a.items ≡ raw = rw (p.0, t.0.0) (append-nil raw) in
    let further : a.further ≡ false = sym p.1 ∙ t.0.1 in
    let is : a ≡ record { items = raw; further = false } = rw (← items, ← further) refl in
    let none : c ≡ record { items = []; further = false } = rw (← t.1.0, ← t.1.1) refl in
    let long : 0 < length raw = omega (arith, ap length kept, length-take (line_limit + 2) raw) in (
      rw (is, none, kept, lines_ahead-none, take-take (line_limit + 1) (line_limit + 2) raw (omega arith)) (lines_ahead-last raw plain long),
      further-lines c ∙ t.1.1 ∙ sym further ∙ sym (further-lines a),
    )

-- The script ended, and a line was begun.
pub Took-last : (a b c : Reading ℕ) (line : List ℕ) → Gathered a b line → Took b c (Takes End) → 0 < length line →
    Took (over lines_ahead a) (over lines_ahead c) (Takes (Item (shortened line)))
Took-last a b c line g t some =
    Took-then lines_ahead lines_ahead a b c (Passed g.raw) (Takes End) (Takes (Item (shortened line))) g.passed t
    (λ x y z p q. takes-last g.raw line x y z g.plain g.kept some p q)

raw-none : (n : ℕ) (raw : List ℕ) → 0 < n → length (take n raw) ≡ 0 → raw ≡ []
raw-none n [] some none = refl
raw-none n (b ∷ bs) some none = absurd (omega (arith, length-take n (b ∷ bs)))

done-lines : (a : Ahead ℕ) → IsDone a → IsDone (lines_ahead a)
done-lines a d =
    let is : a ≡ record { items = []; further = false } = rw (← d.0, ← d.1) refl in
    rw is (lines_ahead-none, further-lines _)

takes-no_line : (raw : List ℕ) (a b c : Ahead ℕ) → raw ≡ [] → Passed raw a b → Takes End b c → Takes End (lines_ahead a) (lines_ahead c)
takes-no_line raw a b c empty p t =
    (done-lines a (rw (p.0, t.0.0, empty) refl, sym p.1 ∙ t.0.1), done-lines c t.1)

-- The script ended where a line would begin.
pub Took-no_line : (a b c : Reading ℕ) (line : List ℕ) → Gathered a b line → Took b c (Takes End) → length line ≡ 0 →
    Took (over lines_ahead a) (over lines_ahead c) (Takes End)
Took-no_line a b c line g t none =
    let empty : g.raw ≡ [] = raw-none (line_limit + 2) g.raw (omega arith) (ap length (sym g.kept) ∙ none) in
    Took-then lines_ahead lines_ahead a b c (Passed g.raw) (Takes End) (Takes End) g.passed t (λ x y z p q. takes-no_line g.raw x y z empty p q)

cut_off-lines : (raw : List ℕ) (a : Ahead ℕ) → All (λ b. is_newline b ≡ false) raw → a.items ≡ raw → a.further ≡ true → IsCutOff (lines_ahead a)
cut_off-lines raw a plain items further =
    let is : a ≡ record { items = raw; further = true } = rw (← items, ← further) refl in
    rw is (lines_ahead-open raw plain, further-lines _)

passed-cut_off : (raw : List ℕ) (a b : Ahead ℕ) → All (λ b. is_newline b ≡ false) raw → Passed raw a b → IsCutOff b → IsCutOff (lines_ahead a)
passed-cut_off raw a b plain p d = cut_off-lines raw a plain (rw (p.0, d.0) (append-nil raw)) (sym p.1 ∙ d.1)

takes-too_many_lines : (raw : List ℕ) (a b c : Ahead ℕ) → All (λ b. is_newline b ≡ false) raw →
    Passed raw a b → Takes TooMany b c → Takes TooMany (lines_ahead a) (lines_ahead c)
takes-too_many_lines raw a b c plain p t =
    (passed-cut_off raw a b plain p t.0, cut_off-lines [] c (All-nil (λ b. is_newline b ≡ false)) t.1.0 t.1.1)

-- The units ended.
pub Took-too_many_lines : (a b c : Reading ℕ) (line : List ℕ) → Gathered a b line → Took b c (Takes TooMany) →
    Took (over lines_ahead a) (over lines_ahead c) (Takes TooMany)
Took-too_many_lines a b c line g t =
    Took-then lines_ahead lines_ahead a b c (Passed g.raw) (Takes TooMany) (Takes TooMany) g.passed t
    (λ x y z p q. takes-too_many_lines g.raw x y z g.plain p q)

-- The source failed before the line was ended.
pub Fails-line : (a b : Reading ℕ) (after : Option (List ℕ)) (line : List ℕ) → Gathered a b line → Fails b after → Fails (over lines_ahead a) after
Fails-line a b after line g f = Fails-then lines_ahead a b after (Passed g.raw) g.passed f (λ x y p d. passed-cut_off g.raw x y g.plain p d)
