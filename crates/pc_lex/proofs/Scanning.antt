-- What the loops over a text's bytes keep.
use Rattle.std.proofs.Common.{◌≡◌, ◌≢◌, ℕ, suc, ◌+◌, ◌-◌, ◌*◌, ◌^◌, ◌<◌, ◌≤◌, Bool, true, false, ◌&&◌, ◌==◌, if◌then◌else◌, nat_le, List, [], ◌∷◌, length, drop, get_or, refl, ap, ◌∙◌, arith, add-one, drop-cons}
use Rattle.std.proofs.Math.ListN.{drop_of_length-le}
use Rattle.std.proofs.lemmas.Bool.{lt-leb, le-leb, eq-eqb, ne_eqb, false_from_ne_true}
use Rattle.std.proofs.lemmas.Slice.Eq.{bytes_eq-Decides}
use Rattle.std.proofs.lemmas.List.{length-map, drop-drop}
use Rattle.std.specs.Str.{bytes_eq}
use Rattle.pc_syntax.specs.Words.{value_after, numeral_limit, numeral_limit-is, lower, lowered}
use Rattle.pc_syntax.specs.Words.{is_text_byte}
use Rattle.pc_lex.specs.declared.error.LexError.TheVariants.{BadByte, OpenComment, OpenString}
use Rattle.pc_lex.specs.declared.front.Front.TheVariants.{Comment, Fault}
use Rattle.pc_lex.specs.Runs.{run}
use Rattle.pc_lex.specs.Comments.{begins_with, comment_after}
use Rattle.pc_lex.specs.Quoted.{text_after, ended, broken}
use Rattle.pc_lex.specs.Marks.{mark_at, single_mark, double_mark, single_or_fault, double_or}

-- a byte with the property is one more of the row
pub run_on : (p : ℕ → Bool) (xs : List ℕ) (i : ℕ) → i < length xs → p (get_or xs i 0) ≡ true → run p (drop i xs) ≡ suc (run p (drop (i + 1) xs))
run_on p xs i h e = rw (add-one i, drop-cons xs i 0, e) refl

-- a byte without it ends the row
pub run_off : (p : ℕ → Bool) (xs : List ℕ) (i : ℕ) → i < length xs → p (get_or xs i 0) ≡ false → run p (drop i xs) ≡ 0
run_off p xs i h e = rw (drop-cons xs i 0, e) refl

-- so does the end of the text
pub run_end : (p : ℕ → Bool) (xs : List ℕ) (i : ℕ) → length xs ≤ i → run p (drop i xs) ≡ 0
run_end p xs i h = rw drop_of_length-le refl

cons_same : (x y : ℕ) (xs ys : List ℕ) → x ≡ lower y → bytes_eq (x ∷ xs) (lowered (y ∷ ys)) ≡ bytes_eq xs (lowered ys)
cons_same x y xs ys e = ap (λ b. b && bytes_eq xs (lowered ys)) (eq-eqb x (lower y) e)

cons_other : (x y : ℕ) (xs ys : List ℕ) → x ≢ lower y → bytes_eq (x ∷ xs) (lowered (y ∷ ys)) ≡ false
cons_other x y xs ys h = ap (λ b. b && bytes_eq xs (lowered ys)) (ne_eqb x (lower y) h)

-- two words with the same byte here are the same if their rests are
pub same_on : (xs ys : List ℕ) (i : ℕ) → i < length xs → i < length ys → get_or xs i 0 ≡ lower (get_or ys i 0) → bytes_eq (drop i xs) (lowered (drop i ys)) ≡ bytes_eq (drop (i + 1) xs) (lowered (drop (i + 1) ys))
same_on xs ys i h g e = rw (add-one i, drop-cons xs i 0, drop-cons ys i 0) (cons_same (get_or xs i 0) (get_or ys i 0) (drop (suc i) xs) (drop (suc i) ys) e)

-- with another byte here they differ
pub same_off : (xs ys : List ℕ) (i : ℕ) → i < length xs → i < length ys → get_or xs i 0 ≢ lower (get_or ys i 0) → bytes_eq (drop i xs) (lowered (drop i ys)) ≡ false
same_off xs ys i h g e = rw (drop-cons xs i 0, drop-cons ys i 0) (cons_other (get_or xs i 0) (get_or ys i 0) (drop (suc i) xs) (drop (suc i) ys) e)

-- two words that end here are the same
pub same_end : (xs ys : List ℕ) (i : ℕ) → length xs ≤ i → length ys ≤ i → bytes_eq (drop i xs) (lowered (drop i ys)) ≡ true
same_end xs ys i h g = rw (drop_of_length-le xs h, drop_of_length-le ys g) refl

-- words of two lengths differ
pub same_length : (xs ys : List ℕ) → length xs ≢ length ys → bytes_eq xs (lowered ys) ≡ false
same_length xs ys h = false_from_ne_true (bytes_eq xs (lowered ys)) (λ t. h (ap length ((bytes_eq-Decides xs (lowered ys)).0 t) ∙ length-map ys lower))

-- one digit more
pub value_on : (n : ℕ) (xs : List ℕ) (i : ℕ) → i < length xs → value_after n (drop i xs) ≡ value_after (n * 10 + (get_or xs i 0 - 48)) (drop (i + 1) xs)
value_on n xs i h = rw (add-one i, drop-cons xs i 0) refl

-- digits make a number no smaller
value_least : (n : ℕ) (xs : List ℕ) → n ≤ value_after n xs
value_least n [] = omega arith
value_least n (x ∷ xs) = omega (arith, value_least (n * 10 + (x - 48)) xs)

-- after the last digit the number is within the limit if it was so far
pub value_within : (n : ℕ) (xs : List ℕ) (i : ℕ) → length xs ≤ i → n < 2 ^ 128 → nat_le (value_after n (drop i xs)) numeral_limit ≡ true
value_within n xs i h fits = rw (drop_of_length-le xs h, numeral_limit-is) (le-leb n (2 ^ 128 - 1) (omega arith))

-- a number over the limit stays over it
pub value_over : (n : ℕ) (xs : List ℕ) (i : ℕ) → i < length xs → 2 ^ 128 - 1 < n * 10 + (get_or xs i 0 - 48) → nat_le (value_after n (drop i xs)) numeral_limit ≡ false
value_over n xs i h over = rw (value_on n xs i h, numeral_limit-is) (lt-leb (value_after (n * 10 + (get_or xs i 0 - 48)) (drop (i + 1) xs)) (2 ^ 128 - 1) (omega (arith, value_least (n * 10 + (get_or xs i 0 - 48)) (drop (i + 1) xs))))

-- the byte at a place of the text
pub begins_here : (b : ℕ) (xs : List ℕ) (i : ℕ) → i < length xs → begins_with b (drop i xs) ≡ (get_or xs i 0 == b)
begins_here b xs i h = rw (drop-cons xs i 0) refl

-- there is none after its end
pub begins_nowhere : (b : ℕ) (xs : List ℕ) (i : ℕ) → length xs ≤ i → begins_with b (drop i xs) ≡ false
begins_nowhere b xs i h = rw drop_of_length-le refl

-- a comment goes on with this byte and what follows it
comment_step : (n : ℕ) (xs : List ℕ) (i : ℕ) → i < length xs → comment_after n (drop i xs) ≡ (if get_or xs i 0 == 125 then Comment (n + 1) else if get_or xs i 0 == 42 && begins_with 41 (drop (i + 1) xs) then Comment (n + 2) else comment_after (n + 1) (drop (i + 1) xs))
unfolding comment_after
comment_step n xs i h = rw (add-one i, drop-cons xs i 0) refl

pub comment_brace : (n : ℕ) (xs : List ℕ) (i : ℕ) → i < length xs → get_or xs i 0 ≡ 125 → comment_after n (drop i xs) ≡ Comment (n + 1)
comment_brace n xs i h e = rw (comment_step n xs i h, eq-eqb (get_or xs i 0) 125 e) refl

pub comment_star : (n : ℕ) (xs : List ℕ) (i : ℕ) → i < length xs → get_or xs i 0 ≡ 42 → begins_with 41 (drop (i + 1) xs) ≡ true → comment_after n (drop i xs) ≡ Comment (n + 2)
comment_star n xs i h e f = rw (comment_step n xs i h, e, f) refl

pub comment_other : (n : ℕ) (xs : List ℕ) (i : ℕ) → i < length xs → get_or xs i 0 ≢ 125 → get_or xs i 0 ≢ 42 → comment_after n (drop i xs) ≡ comment_after (n + 1) (drop (i + 1) xs)
comment_other n xs i h e f = rw (comment_step n xs i h, ne_eqb (get_or xs i 0) 125 e, ne_eqb (get_or xs i 0) 42 f) refl

pub comment_lone : (n : ℕ) (xs : List ℕ) (i : ℕ) → i < length xs → get_or xs i 0 ≡ 42 → begins_with 41 (drop (i + 1) xs) ≡ false → comment_after n (drop i xs) ≡ comment_after (n + 1) (drop (i + 1) xs)
comment_lone n xs i h e f = rw (comment_step n xs i h, e, f) refl

-- a comment without a closing mark up to the end is open
pub comment_open : (n : ℕ) (xs : List ℕ) (i : ℕ) → length xs ≤ i → comment_after n (drop i xs) ≡ Fault (OpenComment 1)
unfolding comment_after
comment_open n xs i h = rw drop_of_length-le refl

-- a text goes on with this byte and what follows it
text_cons : (n b : ℕ) (bs : List ℕ) → text_after n (b ∷ bs) ≡ (if b == 39 then (if begins_with 39 bs then text_after (n + 2) (drop 1 bs) else ended n) else if is_text_byte b then text_after (n + 1) bs else broken n b)
unfolding text_after
text_cons n b [] = refl
text_cons n b (c ∷ bs) = refl

text_step : (n : ℕ) (xs : List ℕ) (i : ℕ) → i < length xs → text_after n (drop i xs) ≡ (if get_or xs i 0 == 39 then (if begins_with 39 (drop (i + 1) xs) then text_after (n + 2) (drop (i + 2) xs) else ended n) else if is_text_byte (get_or xs i 0) then text_after (n + 1) (drop (i + 1) xs) else broken n (get_or xs i 0))
text_step n xs i h =
    let d : drop 1 (drop (i + 1) xs) ≡ drop (i + 2) xs = drop-drop 1 (i + 1) xs ∙ ap (λ k. drop k xs) (let e : i + 1 + 1 ≡ i + 2 = omega arith in e) in
    rw (← d, drop-cons xs i 0, ← add-one i) (text_cons n (get_or xs i 0) (drop (i + 1) xs))

pub text_doubled : (n : ℕ) (xs : List ℕ) (i : ℕ) → i < length xs → get_or xs i 0 ≡ 39 → begins_with 39 (drop (i + 1) xs) ≡ true → text_after n (drop i xs) ≡ text_after (n + 2) (drop (i + 2) xs)
text_doubled n xs i h e f = rw (text_step n xs i h, e, f) refl

pub text_ended : (n : ℕ) (xs : List ℕ) (i : ℕ) → i < length xs → get_or xs i 0 ≡ 39 → begins_with 39 (drop (i + 1) xs) ≡ false → text_after n (drop i xs) ≡ ended n
text_ended n xs i h e f = rw (text_step n xs i h, e, f) refl

pub text_on : (n : ℕ) (xs : List ℕ) (i : ℕ) → i < length xs → get_or xs i 0 ≢ 39 → is_text_byte (get_or xs i 0) ≡ true → text_after n (drop i xs) ≡ text_after (n + 1) (drop (i + 1) xs)
text_on n xs i h e f = rw (text_step n xs i h, ne_eqb (get_or xs i 0) 39 e, f) refl

pub text_broken : (n : ℕ) (xs : List ℕ) (i : ℕ) → i < length xs → get_or xs i 0 ≢ 39 → is_text_byte (get_or xs i 0) ≡ false → text_after n (drop i xs) ≡ broken n (get_or xs i 0)
text_broken n xs i h e f = rw (text_step n xs i h, ne_eqb (get_or xs i 0) 39 e, f) refl

-- a text without a closing apostrophe up to the end is open
pub text_open : (n : ℕ) (xs : List ℕ) (i : ℕ) → length xs ≤ i → text_after n (drop i xs) ≡ Fault (OpenString 1)
unfolding text_after
text_open n xs i h = rw drop_of_length-le refl

-- a mark by the bytes that are there
pub mark_none : (xs : List ℕ) → length xs ≡ 0 → mark_at xs ≡ Fault (BadByte 1)
unfolding mark_at
mark_none [] h = refl
mark_none (b ∷ bs) h = absurd (omega arith)

pub mark_one : (xs : List ℕ) → length xs ≡ 1 → mark_at xs ≡ single_or_fault (single_mark (get_or xs 0 0))
unfolding mark_at
mark_one [] h = absurd (omega arith)
mark_one (b ∷ []) h = refl
mark_one (b ∷ c ∷ bs) h = absurd (omega arith)

pub mark_two : (xs : List ℕ) → 2 ≤ length xs → mark_at xs ≡ double_or (double_mark (get_or xs 0 0) (get_or xs 1 0)) (single_or_fault (single_mark (get_or xs 0 0)))
unfolding mark_at
mark_two [] h = absurd (omega arith)
mark_two (b ∷ []) h = absurd (omega arith)
mark_two (b ∷ c ∷ bs) h = refl
