-- What stands at the beginning of a text has a length within it: lemmas.
use Rattle.std.proofs.Common.{◌≡◌, ℕ, suc, ◌+◌, ◌<◌, ◌≤◌, Bool, true, false, ◌&&◌, ◌||◌, ◌==◌, if◌then◌else◌, List, [], ◌∷◌, length, take, drop, Option, Some, None, refl, arith, nat_le}
use Rattle.std.proofs.lemmas.Bool.{cond_both, and_parts, or_left, false≢true}
use Rattle.pc_syntax.specs.Words.{is_letter, is_digit, is_name_byte, is_text_byte, value_after, numeral_limit}
use Rattle.pc_syntax.specs.declared.sort.Sort.{Sort}
use Rattle.pc_lex.specs.declared.error.LexError.TheVariants.{BadByte, OpenString, EmptyString, LongNumeral}
use Rattle.pc_lex.specs.declared.symbol.SymbolKind.TheVariants.{Numeral, Text}
use Rattle.pc_lex.specs.declared.front.Front.{Front}
use Rattle.pc_lex.specs.declared.front.Front.TheVariants.{Blank, Comment, Symbol, Fault}
use Rattle.pc_lex.specs.Runs.{run}
use Rattle.pc_lex.specs.Comments.{begins_with, opens_by_star, comment_after}
use Rattle.pc_lex.specs.Quoted.{text_after, ended, broken}
use Rattle.pc_lex.specs.Marks.{mark_at, single_mark, double_mark, single_or_fault, double_or}
use Rattle.pc_lex.specs.Names.{name_at}
use Rattle.pc_lex.specs.Numerals.{numeral_at}
use Rattle.pc_lex.specs.Holes.{hole_at, hole_or_fault, sort_named}
use Rattle.pc_lex.specs.Fronts.{front, Within, is_blank}

-- a row is no longer than the text
pub run_length : (p : ℕ → Bool) (bs : List ℕ) → run p bs ≤ length bs
run_length p [] = omega arith
run_length p (b ∷ bs) = cond_both (p b) (suc (run p bs)) 0 (λ n. n ≤ suc (length bs)) (λ e. omega (arith, run_length p bs)) (λ e. omega arith)

-- a row with a first byte is not empty
pub run_some : (p : ℕ → Bool) (b : ℕ) (bs : List ℕ) → p b ≡ true → 0 < run p (b ∷ bs)
run_some p b bs e = rw e (omega arith)

either : (b : Bool) (x y : Front) (size : ℕ) → (b ≡ true → Within x size) → (b ≡ false → Within y size) → Within (if b then x else y) size
either b x y size f g = cond_both b x y (λ z. Within z size) f g

begins_some : (b : ℕ) (bs : List ℕ) → begins_with b bs ≡ true → 0 < length bs
begins_some b [] h = cc
begins_some b (c ∷ bs) h = omega arith

comment_within : (n : ℕ) (bs : List ℕ) (size : ℕ) → 0 < n → n + length bs ≤ size → Within (comment_after n bs) size
unfolding comment_after Within
comment_within n [] size some fits = omega arith
comment_within n (b ∷ bs) size some fits =
    either (b == 125) (Comment (n + 1)) (if b == 42 && begins_with 41 bs then Comment (n + 2) else comment_after (n + 1) bs) size
    (λ e. (omega arith, omega arith))
    (λ e. either (b == 42 && begins_with 41 bs) (Comment (n + 2)) (comment_after (n + 1) bs) size
    (λ f. let g : 0 < length bs = begins_some 41 bs (and_parts (b == 42) (begins_with 41 bs) f).1 in (omega arith, omega arith))
    (λ f. comment_within (n + 1) bs size (omega arith) (omega arith)))

ended_within : (n size : ℕ) → 0 < n → n + 1 ≤ size → Within (ended n) size
unfolding Within
ended_within n size some fits = either (n == 1) (Fault (EmptyString 1)) (Symbol Text (n + 1)) size (λ e. omega arith) (λ e. (omega arith, omega arith))

broken_within : (n b size : ℕ) → 0 < n → n + 1 ≤ size → Within (broken n b) size
unfolding Within
broken_within n b size some fits = either (b == 10) (Fault (OpenString 1)) (Fault (BadByte (n + 1))) size (λ e. omega arith) (λ e. omega arith)

text_within : (n : ℕ) (bs : List ℕ) (size : ℕ) → 0 < n → n + length bs ≤ size → Within (text_after n bs) size
unfolding text_after Within
text_within n [] size some fits = omega arith
text_within n (b ∷ []) size some fits =
    either (b == 39) (ended n) (if is_text_byte b then Fault (OpenString 1) else broken n b) size
    (λ e. ended_within n size some (omega arith))
    (λ e. either (is_text_byte b) (Fault (OpenString 1)) (broken n b) size (λ f. omega arith) (λ f. broken_within n b size some (omega arith)))
text_within n (b ∷ c ∷ bs) size some fits =
    either (b == 39) (if c == 39 then text_after (n + 2) bs else ended n) (if is_text_byte b then text_after (n + 1) (c ∷ bs) else broken n b) size
    (λ e. either (c == 39) (text_after (n + 2) bs) (ended n) size
    (λ f. text_within (n + 2) bs size (omega arith) (omega arith))
    (λ f. ended_within n size some (omega arith)))
    (λ e. either (is_text_byte b) (text_after (n + 1) (c ∷ bs)) (broken n b) size
    (λ f. text_within (n + 1) (c ∷ bs) size (omega arith) (omega arith))
    (λ f. broken_within n b size some (omega arith)))

name_within : (b : ℕ) (bs : List ℕ) → is_letter b ≡ true → Within (name_at (b ∷ bs)) (length (b ∷ bs))
unfolding name_at Within
name_within b bs e = (run_some is_name_byte b bs (or_left (is_letter b || is_digit b) (b == 95) (or_left (is_letter b) (is_digit b) e)), run_length is_name_byte (b ∷ bs))

numeral_within : (b : ℕ) (bs : List ℕ) → is_digit b ≡ true → Within (numeral_at (b ∷ bs)) (length (b ∷ bs))
unfolding numeral_at Within
numeral_within b bs e =
    either (nat_le (value_after 0 (take (run is_digit (b ∷ bs)) (b ∷ bs))) numeral_limit) (Symbol Numeral (run is_digit (b ∷ bs))) (Fault (LongNumeral 1)) (length (b ∷ bs))
    (λ f. (run_some is_digit b bs e, run_length is_digit (b ∷ bs)))
    (λ f. omega arith)

hole_part : (s : Option Sort) (n size : ℕ) → n < size → Within (hole_or_fault s (n + 1)) size
unfolding Within
hole_part None n size h = omega arith
hole_part (Some s) n size h = (omega arith, omega arith)

hole_within : (bs : List ℕ) → Within (hole_at bs) (suc (length bs))
unfolding hole_at
hole_within bs = hole_part (sort_named (take (run is_letter bs) bs)) (run is_letter bs) (suc (length bs)) (omega (arith, run_length is_letter bs))

single_within : (r : Option ℕ) (size : ℕ) → 1 ≤ size → Within (single_or_fault r) size
unfolding Within
single_within None size h = h
single_within (Some row) size h = (omega arith, h)

double_within : (r : Option ℕ) (f : Front) (size : ℕ) → 2 ≤ size → Within f size → Within (double_or r f) size
unfolding Within
double_within None f size h g = g
double_within (Some row) f size h g = (omega arith, h)

mark_within : (b : ℕ) (bs : List ℕ) → Within (mark_at (b ∷ bs)) (length (b ∷ bs))
unfolding mark_at
mark_within b [] = single_within (single_mark b) 1 (omega arith)
mark_within b (c ∷ bs) = double_within (double_mark b c) (single_or_fault (single_mark b)) (length (b ∷ c ∷ bs)) (omega arith) (single_within (single_mark b) (length (b ∷ c ∷ bs)) (omega arith))

star_within : (b : ℕ) (bs : List ℕ) → opens_by_star (b ∷ bs) ≡ true → Within (comment_after 2 (drop 1 bs)) (length (b ∷ bs))
star_within b [] h = absurd (false≢true (and_parts (b == 40) (begins_with 42 []) h).1)
star_within b (c ∷ bs) h = comment_within 2 bs (length (b ∷ c ∷ bs)) (omega arith) (omega arith)

-- what stands there lies within the text
pub front_within : (bs : List ℕ) → Within (front bs) (length bs)
unfolding front Within
front_within [] = refl
front_within (b ∷ bs) =
    let size : ℕ = suc (length bs) in
    either (is_blank b) Blank (if b == 123 then comment_after 1 bs else if opens_by_star (b ∷ bs) then comment_after 2 (drop 1 bs) else if is_letter b then name_at (b ∷ bs) else if is_digit b then numeral_at (b ∷ bs) else if b == 39 then text_after 1 bs else if b == 63 then hole_at bs else mark_at (b ∷ bs)) size
    (λ e. omega arith)
    (λ e. either (b == 123) (comment_after 1 bs) (if opens_by_star (b ∷ bs) then comment_after 2 (drop 1 bs) else if is_letter b then name_at (b ∷ bs) else if is_digit b then numeral_at (b ∷ bs) else if b == 39 then text_after 1 bs else if b == 63 then hole_at bs else mark_at (b ∷ bs)) size
    (λ f. comment_within 1 bs size (omega arith) (omega arith))
    (λ f. either (opens_by_star (b ∷ bs)) (comment_after 2 (drop 1 bs)) (if is_letter b then name_at (b ∷ bs) else if is_digit b then numeral_at (b ∷ bs) else if b == 39 then text_after 1 bs else if b == 63 then hole_at bs else mark_at (b ∷ bs)) size
    (λ g. star_within b bs g)
    (λ g. either (is_letter b) (name_at (b ∷ bs)) (if is_digit b then numeral_at (b ∷ bs) else if b == 39 then text_after 1 bs else if b == 63 then hole_at bs else mark_at (b ∷ bs)) size
    (λ h. name_within b bs h)
    (λ h. either (is_digit b) (numeral_at (b ∷ bs)) (if b == 39 then text_after 1 bs else if b == 63 then hole_at bs else mark_at (b ∷ bs)) size
    (λ k. numeral_within b bs k)
    (λ k. either (b == 39) (text_after 1 bs) (if b == 63 then hole_at bs else mark_at (b ∷ bs)) size
    (λ l. text_within 1 bs size (omega arith) (omega arith))
    (λ l. either (b == 63) (hole_at bs) (mark_at (b ∷ bs)) size (λ m. hole_within bs) (λ m. mark_within b bs)))))))
