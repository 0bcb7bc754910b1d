use Rattle.std.proofs.Common.{◌≡◌, ◌==◌, ℕ, ◌<◌, ◌≤◌, true, false, eqb, nat_le, List, [], ◌∷◌, Some, None, length, get_or, drop, count_by, inr, refl, arith}
use Rattle.std.specs.List.{slice_split}
use Rattle.std.proofs.lemmas.Bool.{lt-leb, le-leb}
use Rattle.std.proofs.lemmas.Bool.Decides.{nat_tests}
use Rattle.std.proofs.lemmas.List.{take_rest}
use Rattle.std.proofs.lemmas.List.Splits.{length-slice_split}
use Rattle.pc_syntax.specs.Paths.{part_limit, parts_behind}
use Rattle.pc_syntax.proofs.parts.parts_behind.Goals as goal

same : (a b : ℕ) → a ≡ b → eqb a b ≡ true
same a b is = grind (arith, nat_tests)

parts_behind-many : (mark : ℕ) (word : List ℕ) → get_or word 0 0 ≡ mark → part_limit ≤ count_by (λ byte. byte == mark) (drop 1 word) → parts_behind mark word ≡ None
unfolding parts_behind
parts_behind-many mark [] is many = absurd (omega arith)
parts_behind-many mark (b ∷ []) is many = absurd (omega arith)
parts_behind-many mark (b ∷ c ∷ bs) is many =
    let over : nat_le (length (slice_split (λ byte. byte == mark) (c ∷ bs))) part_limit ≡ false =
    lt-leb _ _ (omega (arith, length-slice_split (λ byte. byte == mark) (c ∷ bs))) in
    rw (same b mark is, over) refl

parts_behind-few : (mark : ℕ) (word : List ℕ) → get_or word 0 0 ≡ mark → 1 ≤ length (drop 1 word) → count_by (λ byte. byte == mark) (drop 1 word) < part_limit →
    parts_behind mark word ≡ Some (slice_split (λ byte. byte == mark) (drop 1 word))
unfolding parts_behind
parts_behind-few mark [] is some few = absurd (omega arith)
parts_behind-few mark (b ∷ []) is some few = absurd (omega arith)
parts_behind-few mark (b ∷ c ∷ bs) is some few =
    let within : nat_le (length (slice_split (λ byte. byte == mark) (c ∷ bs))) part_limit ≡ true =
    le-leb _ _ (omega (arith, length-slice_split (λ byte. byte == mark) (c ∷ bs))) in
    rw (same b mark is, within) refl

pub returns-then-part_limit-count_marks : goal.returns-then-part_limit-count_marks
returns-then-part_limit-count_marks c =
    let count = rw take_rest at c.count_marks.ensures in
    inr (rw (parts_behind-many c.args.mark c.args.word.now c.if-first-mark.false (omega (arith, count, c.part_limit.ensures, c.if-part_limit-count_marks.true))) refl)

pub returns : goal.returns
returns c =
    let count = rw take_rest at c.count_marks.ensures in
    let parts = rw take_rest at c.in_ok-parts.ensures in
    let bytes = rw take_rest at c.is_empty.ensures in
    let some : 1 ≤ length (drop 1 c.args.word.now) = grind (arith, nat_tests) in
    inr (rw (parts_behind-few c.args.mark c.args.word.now c.if-first-mark.false some (omega (arith, count, c.part_limit.ensures, c.if-part_limit-count_marks.false)), parts) refl)
