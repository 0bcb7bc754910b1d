-- Values of rows of digits.
use Rattle.std.proofs.Common.{◌≡◌, ℕ, ◌+◌, ◌-◌, ◌*◌, ◌^◌, ◌<◌, ◌≤◌, true, false, nat_le, Bool, if◌then◌else◌, List, [], ◌∷◌, Some, None, length, get_or, refl, arith}
use Rattle.std.proofs.lemmas.Bool.{lt-leb, le-leb, leb-false}
use Rattle.std.proofs.Math.Bool.{and-false}
use Rattle.pc_syntax.specs.Words.{value_after, numeral_value, numeral_limit, numeral_limit-is}
use Rattle.pc_syntax.specs.Paths.{step_of, element_number}

-- digits make a number no smaller
value_least : (n : ℕ) (xs : List ℕ) → n ≤ value_after n xs
value_least n [] = omega arith
value_least n (x ∷ xs) = omega (arith, value_least (n * 10 + (x - 48)) xs)

-- a number over the limit stays over it
pub over_add : (n : ℕ) (xs : List ℕ) → 1 ≤ length xs → 2 ^ 128 ≤ n * 10 + (get_or xs 0 0 - 48) → nat_le (value_after n xs) numeral_limit ≡ false
over_add n [] some over = absurd (omega arith)
over_add n (x ∷ xs) some over = rw numeral_limit-is (lt-leb _ _ (omega (arith, value_least (n * 10 + (x - 48)) xs)))

pub over_mul : (n : ℕ) (xs : List ℕ) → 1 ≤ length xs → 2 ^ 128 ≤ n * 10 → nat_le (value_after n xs) numeral_limit ≡ false
over_mul n xs some over = over_add n xs some (omega arith)

-- with no digit left the number is the value
pub within : (n : ℕ) (xs : List ℕ) → length xs < 1 → n < 2 ^ 128 → nat_le (value_after n xs) numeral_limit ≡ true
within n [] none small = rw numeral_limit-is (le-leb _ _ (omega arith))
within n (x ∷ xs) none small = absurd (omega arith)

pub value_whole : (n : ℕ) (xs : List ℕ) → length xs < 1 → n ≡ value_after n xs
value_whole n [] none = refl
value_whole n (x ∷ xs) none = absurd (omega arith)

-- a number over the limit of all numerals is over that of a step
over_step : (v : ℕ) (t : Bool) → nat_le v numeral_limit ≡ t → (if t then Some v else None) ≡ None → nat_le v 4294967295 ≡ false
over_step v true is none = cc
over_step v false is none = lt-leb _ _ (omega (arith, leb-false _ _ is, numeral_limit-is))

-- a word whose number is over the limit is no step
pub step_of-over : (word : List ℕ) → numeral_value word ≡ None → step_of word ≡ None
unfolding step_of
step_of-over [] over = refl
step_of-over (b ∷ bs) over = rw (over_step (value_after 0 (b ∷ bs)) _ refl over, and-false) refl

-- neither is it the number of an element
pub element_number-over : (word : List ℕ) → numeral_value word ≡ None → element_number word ≡ None
unfolding element_number
element_number-over word over = rw (over_step (value_after 0 word) _ refl over, and-false) refl
