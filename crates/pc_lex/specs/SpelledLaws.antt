-- What stands at the beginning of a text has the form that its kind says: lemmas.
use Rattle.std.specs.Prelude.{◌≡◌, ℕ, suc, ◌+◌, ◌<◌, ◌≤◌, Bool, true, false, not, ◌&&◌, ◌||◌, ◌==◌, if◌then◌else◌, nat_le, List, [], ◌∷◌, Option, Some, None, take, drop, length}
use Rattle.std.proofs.Common.{refl, zero, inl, inr, arith}
use Rattle.std.proofs.lemmas.Bool.{cond_both, cases_Bool, and_parts, and_from, or_left, or_right, false≢true, eqb-false}
use Rattle.std.proofs.lemmas.List.{length-take}
use Rattle.std.specs.List.{list_all}
use Rattle.std.specs.Str.{bytes_eq}
use Rattle.pc_syntax.specs.Spellings.{key_words}
use Rattle.pc_syntax.specs.Words.{is_letter, is_digit, is_name_byte, is_name_form, is_among, is_key_word, is_identifier, is_digits, value_after, numeral_limit, is_numeral, is_text_byte, ends_text, is_text, ends_comment, is_comment, lowered}
use Rattle.pc_syntax.specs.declared.sort.Sort.{Sort}
use Rattle.pc_lex.specs.declared.error.LexError.TheVariants.{BadByte, OpenString, EmptyString, LongNumeral}
use Rattle.pc_lex.specs.declared.symbol.SymbolKind.TheVariants.{Numeral, Text}
use Rattle.pc_lex.specs.declared.front.Front.{Front}
use Rattle.pc_lex.specs.declared.front.Front.TheVariants.{End, Blank, Comment, Symbol, Fault}
use Rattle.pc_lex.specs.Runs.{run}
use Rattle.pc_lex.specs.Comments.{begins_with, opens_by_star, comment_after}
use Rattle.pc_lex.specs.Quoted.{text_after, ended, broken}
use Rattle.pc_lex.specs.Marks.{mark_at, single_mark, double_mark, single_or_fault, double_or}
use Rattle.pc_lex.specs.Names.{name_at, kind_of_word, key_or_name, row_from}
use Rattle.pc_lex.specs.Numerals.{numeral_at}
use Rattle.pc_lex.specs.Holes.{hole_at, hole_or_fault, sort_named}
use Rattle.pc_lex.specs.Fronts.{front, is_blank}
use Rattle.pc_lex.specs.Proper.{IsWord, IsSpelled}

-- the bytes of a row have its property
run_all : (p : ℕ → Bool) (bs : List ℕ) → list_all p (take (run p bs) bs) ≡ true
run_all p [] = refl
run_all p (b ∷ bs) = cond_both (p b) (suc (run p bs)) 0 (λ n. list_all p (take n (b ∷ bs)) ≡ true) (λ e. rw e (run_all p bs)) (λ e. refl)

-- the rest of a comment
abbrev RestOfComment : Front → ℕ → List ℕ → Type 0
RestOfComment End n bs = Unit {0}
RestOfComment Blank n bs = ⊥
RestOfComment (Comment m) n bs = (k : ℕ) × (m ≡ n + k) × (ends_comment (take k bs) ≡ true)
RestOfComment (Symbol kind m) n bs = ⊥
RestOfComment (Fault e) n bs = Unit {0}

ends_comment-cons : (b k : ℕ) (bs : List ℕ) → (b == 125) ≡ false → (b == 42 && begins_with 41 bs) ≡ false → ends_comment (take k bs) ≡ true → ends_comment (b ∷ take k bs) ≡ true
ends_comment-cons b zero bs e f h = absurd (false≢true h)
ends_comment-cons b (suc k) [] e f h = absurd (false≢true h)
ends_comment-cons b (suc zero) (c ∷ bs) e f h = rw (e, h) refl
ends_comment-cons b (suc (suc k)) (c ∷ []) e f h = rw (e, h) refl
ends_comment-cons b (suc (suc k)) (c ∷ d ∷ bs) e f h = rw (e, f, h) refl

comment_longer : (f : Front) (n b : ℕ) (bs : List ℕ) → (b == 125) ≡ false → (b == 42 && begins_with 41 bs) ≡ false → RestOfComment f (n + 1) bs → RestOfComment f n (b ∷ bs)
comment_longer End n b bs e g h = tt
comment_longer Blank n b bs e g h = h
comment_longer (Comment m) n b bs e g h = (suc h.0, omega (arith, h.1), ends_comment-cons b h.0 bs e g h.2)
comment_longer (Symbol kind m) n b bs e g h = h
comment_longer (Fault x) n b bs e g h = tt

star_ends : (n b : ℕ) (bs : List ℕ) → (b == 125) ≡ false → (b == 42 && begins_with 41 bs) ≡ true → RestOfComment (Comment (n + 2)) n (b ∷ bs)
star_ends n b [] e f = absurd (false≢true (and_parts (b == 42) false f).1)
star_ends n b (c ∷ bs) e f = (2, refl, rw (e, f) (or_true (c == 125)))
  where
    or_true : (x : Bool) → (not false && (x || true)) ≡ true
    or_true x = or_right x true refl

rest_of_comment : (n : ℕ) (bs : List ℕ) → RestOfComment (comment_after n bs) n bs
unfolding comment_after
rest_of_comment n [] = tt
rest_of_comment n (b ∷ bs) =
    cond_both (b == 125) (Comment (n + 1)) (if b == 42 && begins_with 41 bs then Comment (n + 2) else comment_after (n + 1) bs) (λ f. RestOfComment f n (b ∷ bs))
    (λ e. (1, refl, e))
    (λ e. cond_both (b == 42 && begins_with 41 bs) (Comment (n + 2)) (comment_after (n + 1) bs) (λ f. RestOfComment f n (b ∷ bs))
    (λ g. star_ends n b bs e g)
    (λ g. comment_longer (comment_after (n + 1) bs) n b bs e g (rest_of_comment (n + 1) bs)))

brace_comment : (b : ℕ) (w : List ℕ) → (b == 123) ≡ true → ends_comment w ≡ true → is_comment (b ∷ w) ≡ true
unfolding is_comment
brace_comment b [] e h = absurd (false≢true h)
brace_comment b (c ∷ w) e h = or_left (b == 123 && ends_comment (c ∷ w)) (b == 40 && c == 42 && ends_comment w) (rw (e, h) refl)

star_comment : (b c : ℕ) (w : List ℕ) → (b == 40) ≡ true → (c == 42) ≡ true → ends_comment w ≡ true → is_comment (b ∷ c ∷ w) ≡ true
unfolding is_comment
star_comment b c w e f h = or_right (b == 123 && ends_comment (c ∷ w)) (b == 40 && c == 42 && ends_comment w) (rw (e, f, h) refl)

brace_spelled : (f : Front) (b : ℕ) (bs : List ℕ) → (b == 123) ≡ true → RestOfComment f 1 bs → IsSpelled f (b ∷ bs)
brace_spelled End b bs e h = tt
brace_spelled Blank b bs e h = tt
brace_spelled (Comment m) b bs e h = let long : m ≡ suc h.0 = omega (arith, h.1) in rw long (brace_comment b (take h.0 bs) e h.2)
brace_spelled (Symbol kind m) b bs e h = absurd h
brace_spelled (Fault x) b bs e h = tt

star_spelled : (f : Front) (b c : ℕ) (bs : List ℕ) → (b == 40 && c == 42) ≡ true → RestOfComment f 2 bs → IsSpelled f (b ∷ c ∷ bs)
star_spelled End b c bs e h = tt
star_spelled Blank b c bs e h = tt
star_spelled (Comment m) b c bs e h =
    let long : m ≡ suc (suc h.0) = omega (arith, h.1) in
    let both : ((b == 40) ≡ true) × ((c == 42) ≡ true) = and_parts (b == 40) (c == 42) e in
    rw long (star_comment b c (take h.0 bs) both.0 both.1 h.2)
star_spelled (Symbol kind m) b c bs e h = absurd h
star_spelled (Fault x) b c bs e h = tt

-- the rest of a text
abbrev RestOfText : Front → ℕ → List ℕ → Type 0
RestOfText End n bs = Unit {0}
RestOfText Blank n bs = ⊥
RestOfText (Comment m) n bs = ⊥
RestOfText (Symbol kind m) n bs = (kind ≡ Text) × ((k : ℕ) × (m ≡ n + k) × (k ≤ length bs) × (3 ≤ m) × (ends_text (take k bs) ≡ true))
RestOfText (Fault e) n bs = Unit {0}

ends_text-cons : (b : ℕ) (w : List ℕ) → (b == 39) ≡ false → is_text_byte b ≡ true → ends_text w ≡ true → ends_text (b ∷ w) ≡ true
ends_text-cons b [] e f h = absurd (false≢true h)
ends_text-cons b (c ∷ w) e f h = rw (e, f, h) refl

text_longer : (f : Front) (n b : ℕ) (bs : List ℕ) → (b == 39) ≡ false → is_text_byte b ≡ true → RestOfText f (n + 1) bs → RestOfText f n (b ∷ bs)
text_longer End n b bs e g h = tt
text_longer Blank n b bs e g h = h
text_longer (Comment m) n b bs e g h = h
text_longer (Symbol kind m) n b bs e g h = (h.0, (suc h.1.0, omega (arith, h.1.1), omega (arith, h.1.2), h.1.3, ends_text-cons b (take h.1.0 bs) e g h.1.4))
text_longer (Fault x) n b bs e g h = tt

text_doubled : (f : Front) (n b c : ℕ) (bs : List ℕ) → (b == 39) ≡ true → (c == 39) ≡ true → RestOfText f (n + 2) bs → RestOfText f n (b ∷ c ∷ bs)
text_doubled End n b c bs e g h = tt
text_doubled Blank n b c bs e g h = h
text_doubled (Comment m) n b c bs e g h = h
text_doubled (Symbol kind m) n b c bs e g h = (h.0, (suc (suc h.1.0), omega (arith, h.1.1), omega (arith, h.1.2), h.1.3, rw (e, g, h.1.4) refl))
text_doubled (Fault x) n b c bs e g h = tt

text_ended : (n b : ℕ) (bs : List ℕ) → 0 < n → (b == 39) ≡ true → RestOfText (ended n) n (b ∷ bs)
text_ended n b bs some e =
    cond_both (n == 1) (Fault (EmptyString 1)) (Symbol Text (n + 1)) (λ f. RestOfText f n (b ∷ bs))
    (λ f. tt)
    (λ f. let more : n ≡ 1 → ⊥ = eqb-false n 1 f in (refl, (1, refl, omega arith, omega arith, e)))

text_broken : (n b : ℕ) (bs : List ℕ) → RestOfText (broken n b) n bs
text_broken n b bs = cond_both (b == 10) (Fault (OpenString 1)) (Fault (BadByte (n + 1))) (λ f. RestOfText f n bs) (λ e. tt) (λ e. tt)

rest_of_text : (n : ℕ) (bs : List ℕ) → 0 < n → RestOfText (text_after n bs) n bs
unfolding text_after
rest_of_text n [] some = tt
rest_of_text n (b ∷ []) some =
    cond_both (b == 39) (ended n) (if is_text_byte b then Fault (OpenString 1) else broken n b) (λ f. RestOfText f n (b ∷ []))
    (λ e. text_ended n b [] some e)
    (λ e. cond_both (is_text_byte b) (Fault (OpenString 1)) (broken n b) (λ f. RestOfText f n (b ∷ [])) (λ f. tt) (λ f. text_broken n b (b ∷ [])))
rest_of_text n (b ∷ c ∷ bs) some =
    cond_both (b == 39) (if c == 39 then text_after (n + 2) bs else ended n) (if is_text_byte b then text_after (n + 1) (c ∷ bs) else broken n b) (λ f. RestOfText f n (b ∷ c ∷ bs))
    (λ e. cond_both (c == 39) (text_after (n + 2) bs) (ended n) (λ f. RestOfText f n (b ∷ c ∷ bs))
    (λ f. text_doubled (text_after (n + 2) bs) n b c bs e f (rest_of_text (n + 2) bs (omega arith)))
    (λ f. text_ended n b (c ∷ bs) some e))
    (λ e. cond_both (is_text_byte b) (text_after (n + 1) (c ∷ bs)) (broken n b) (λ f. RestOfText f n (b ∷ c ∷ bs))
    (λ f. text_longer (text_after (n + 1) (c ∷ bs)) n b (c ∷ bs) e f (rest_of_text (n + 1) (c ∷ bs) (omega arith)))
    (λ f. text_broken n b (b ∷ c ∷ bs)))

text_word : (b : ℕ) (w : List ℕ) → (b == 39) ≡ true → 2 ≤ length w → ends_text w ≡ true → is_text (b ∷ w) ≡ true
unfolding is_text
text_word b [] e h g = absurd (omega arith)
text_word b (c ∷ []) e h g = absurd (omega arith)
text_word b (c ∷ d ∷ w) e h g = rw (e, g) refl

text_spelled : (f : Front) (b : ℕ) (bs : List ℕ) → (b == 39) ≡ true → RestOfText f 1 bs → IsSpelled f (b ∷ bs)
text_spelled End b bs e h = tt
text_spelled Blank b bs e h = tt
text_spelled (Comment m) b bs e h = absurd h
text_spelled (Symbol kind m) b bs e h =
    let long : m ≡ suc h.1.0 = omega (arith, h.1.1) in
    let size : 2 ≤ length (take h.1.0 bs) = omega (arith, length-take h.1.0 bs, h.1.1, h.1.2, h.1.3) in
    rw (h.0, long) (text_word b (take h.1.0 bs) e size h.1.4)
text_spelled (Fault x) b bs e h = tt

-- a word that has no row is not in the list
row_from-None : (n : ℕ) (xs : List (List ℕ)) (w : List ℕ) → row_from n xs w ≡ None → is_among xs w ≡ false
row_from-None n [] w h = refl
row_from-None n (x ∷ xs) w h = elim (cases_Bool (bytes_eq x w)) [
  | inl e ↦ let bad : Some n ≡ None = rw e at h in cc
  | inr e ↦ let rest : row_from (n + 1) xs w ≡ None = rw e at h in rw e (row_from-None (n + 1) xs w rest)
]

name_word : (w : List ℕ) → is_name_form w ≡ true → IsWord (kind_of_word w) w
unfolding kind_of_word is_identifier is_key_word
name_word w h = go (row_from 1 key_words (lowered w)) refl
  where
    go : (o : Option ℕ) → row_from 1 key_words (lowered w) ≡ o → IsWord (key_or_name o) w
    go None e = let out : is_among key_words (lowered w) ≡ false = row_from-None 1 key_words (lowered w) e in rw (h, out) refl
    go (Some row) e = tt

name_spelled : (b : ℕ) (bs : List ℕ) → is_letter b ≡ true → IsSpelled (name_at (b ∷ bs)) (b ∷ bs)
unfolding name_at
name_spelled b bs e =
    let first : is_name_byte b ≡ true = or_left (is_letter b || is_digit b) (b == 95) (or_left (is_letter b) (is_digit b) e) in
    let form : is_name_form (take (run is_name_byte (b ∷ bs)) (b ∷ bs)) ≡ true = rw (first, e, run_all is_name_byte bs) refl in
    name_word (take (run is_name_byte (b ∷ bs)) (b ∷ bs)) form

numeral_spelled : (b : ℕ) (bs : List ℕ) → is_digit b ≡ true → IsSpelled (numeral_at (b ∷ bs)) (b ∷ bs)
unfolding numeral_at is_numeral
numeral_spelled b bs e =
    let w : List ℕ = take (run is_digit (b ∷ bs)) (b ∷ bs) in
    let count : run is_digit (b ∷ bs) ≡ suc (run is_digit bs) = rw e refl in
    let digits : is_digits w ≡ true = rw count (and_from (is_digit b) (list_all is_digit (take (run is_digit bs) bs)) e (run_all is_digit bs)) in
    cond_both (nat_le (value_after 0 w) numeral_limit) (Symbol Numeral (run is_digit (b ∷ bs))) (Fault (LongNumeral 1)) (λ f. IsSpelled f (b ∷ bs))
    (λ f. rw (digits, f) refl)
    (λ f. tt)

hole_spelled : (s : Option Sort) (n : ℕ) (bs : List ℕ) → IsSpelled (hole_or_fault s n) bs
hole_spelled None n bs = tt
hole_spelled (Some s) n bs = tt

single_spelled : (r : Option ℕ) (bs : List ℕ) → IsSpelled (single_or_fault r) bs
single_spelled None bs = tt
single_spelled (Some row) bs = tt

double_spelled : (r : Option ℕ) (f : Front) (bs : List ℕ) → IsSpelled f bs → IsSpelled (double_or r f) bs
double_spelled None f bs h = h
double_spelled (Some row) f bs h = tt

mark_spelled : (bs : List ℕ) → IsSpelled (mark_at bs) bs
unfolding mark_at
mark_spelled [] = tt
mark_spelled (b ∷ []) = single_spelled (single_mark b) (b ∷ [])
mark_spelled (b ∷ c ∷ bs) = double_spelled (double_mark b c) (single_or_fault (single_mark b)) (b ∷ c ∷ bs) (single_spelled (single_mark b) (b ∷ c ∷ bs))

starred : (b : ℕ) (bs : List ℕ) → opens_by_star (b ∷ bs) ≡ true → IsSpelled (comment_after 2 (drop 1 bs)) (b ∷ bs)
starred b [] h = absurd (false≢true (and_parts (b == 40) (begins_with 42 []) h).1)
starred b (c ∷ bs) h = star_spelled (comment_after 2 bs) b c bs h (rest_of_comment 2 bs)

-- what stands at the beginning of a text has the form that its kind says
pub front_spelled : (bs : List ℕ) → IsSpelled (front bs) bs
unfolding front hole_at
front_spelled [] = tt
front_spelled (b ∷ bs) =
    cond_both (is_blank b) Blank (if b == 123 then comment_after 1 bs else if opens_by_star (b ∷ bs) then comment_after 2 (drop 1 bs) else if is_letter b then name_at (b ∷ bs) else if is_digit b then numeral_at (b ∷ bs) else if b == 39 then text_after 1 bs else if b == 63 then hole_at bs else mark_at (b ∷ bs)) (λ f. IsSpelled f (b ∷ bs))
    (λ e. tt)
    (λ e. cond_both (b == 123) (comment_after 1 bs) (if opens_by_star (b ∷ bs) then comment_after 2 (drop 1 bs) else if is_letter b then name_at (b ∷ bs) else if is_digit b then numeral_at (b ∷ bs) else if b == 39 then text_after 1 bs else if b == 63 then hole_at bs else mark_at (b ∷ bs)) (λ f. IsSpelled f (b ∷ bs))
    (λ f. brace_spelled (comment_after 1 bs) b bs f (rest_of_comment 1 bs))
    (λ f. cond_both (opens_by_star (b ∷ bs)) (comment_after 2 (drop 1 bs)) (if is_letter b then name_at (b ∷ bs) else if is_digit b then numeral_at (b ∷ bs) else if b == 39 then text_after 1 bs else if b == 63 then hole_at bs else mark_at (b ∷ bs)) (λ f. IsSpelled f (b ∷ bs))
    (λ g. starred b bs g)
    (λ g. cond_both (is_letter b) (name_at (b ∷ bs)) (if is_digit b then numeral_at (b ∷ bs) else if b == 39 then text_after 1 bs else if b == 63 then hole_at bs else mark_at (b ∷ bs)) (λ f. IsSpelled f (b ∷ bs))
    (λ h. name_spelled b bs h)
    (λ h. cond_both (is_digit b) (numeral_at (b ∷ bs)) (if b == 39 then text_after 1 bs else if b == 63 then hole_at bs else mark_at (b ∷ bs)) (λ f. IsSpelled f (b ∷ bs))
    (λ k. numeral_spelled b bs k)
    (λ k. cond_both (b == 39) (text_after 1 bs) (if b == 63 then hole_at bs else mark_at (b ∷ bs)) (λ f. IsSpelled f (b ∷ bs))
    (λ l. text_spelled (text_after 1 bs) b bs l (rest_of_text 1 bs (omega arith)))
    (λ l. cond_both (b == 63) (hole_at bs) (mark_at (b ∷ bs)) (λ f. IsSpelled f (b ∷ bs))
    (λ m. hole_spelled (sort_named (take (run is_letter bs) bs)) (run is_letter bs + 1) (b ∷ bs))
    (λ m. mark_spelled (b ∷ bs))))))))
