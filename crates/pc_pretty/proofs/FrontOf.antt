-- What stands at the beginning of a symbol as it is written, with what doesn't extend it behind it.
use Rattle.std.proofs.Common.{◌≡◌, ℕ, ◌+◌, ◌≤◌, suc, Bool, true, false, not, ◌||◌, ◌&&◌, ◌==◌, inl, inr, List, [], ◌∷◌, ◌++◌, Some, None, if◌then◌else◌, nat_le, length, take, refl, sym, ap, ◌∙◌, arith, append-nil}
use Rattle.std.proofs.lemmas.Bool.{and_parts, and_from, or_parts, or_cases, cases_Bool, not-true, not_from_false, false≢true, eqb-true, leb-true, lt-leb, ne_eqb}
use Rattle.std.proofs.lemmas.List.{take_at}
use Rattle.std.specs.List.{list_all}
use Rattle.pc_syntax.specs.declared.sort.Sort.{Sort}
use Rattle.pc_syntax.specs.declared.sort.Sort.TheVariants as sort
use Rattle.pc_syntax.specs.declared.lexeme.Lexeme.{Lexeme}
use Rattle.pc_syntax.specs.declared.lexeme.Lexeme.TheVariants as lexeme
use Rattle.pc_syntax.specs.Spellings.{spelling_of, sort_name, key_words}
use Rattle.pc_syntax.specs.Words.{is_letter, is_digit, is_name_byte, is_name_form, is_among, is_key_word, is_identifier, is_digits, value_after, numeral_limit, is_numeral, is_text_byte, ends_text, is_text, lowered}
use Rattle.std.specs.Str.{bytes_eq}
use Rattle.pc_lex.specs.declared.symbol.SymbolKind.{SymbolKind}
use Rattle.pc_lex.specs.declared.symbol.SymbolKind.TheVariants as symbol
use Rattle.pc_lex.specs.declared.front.Front.{Front}
use Rattle.pc_lex.specs.declared.front.Front.TheVariants.{Symbol, Fault}
use Rattle.pc_lex.specs.declared.error.LexError.TheVariants.{LongNumeral}
use Rattle.pc_lex.specs.Runs.{run}
use Rattle.pc_lex.specs.Comments.{begins_with}
use Rattle.pc_lex.specs.Quoted.{text_after, ended}
use Rattle.pc_lex.specs.Marks.{mark_at, single_mark, double_mark}
use Rattle.pc_lex.specs.Names.{name_at, kind_of_word, row_from}
use Rattle.pc_lex.specs.Numerals.{numeral_at}
use Rattle.pc_lex.specs.Holes.{hole_at, hole_or_fault, sort_named}
use Rattle.pc_lex.specs.Fronts.{front}
use Rattle.pc_lex.specs.Views.{lexeme_of, kept}
use Rattle.pc_lex.specs.Proper.{IsProper}
use Rattle.pc_pretty.proofs.Apart.{extends}

-- the rest doesn't begin with a byte of the property
abbrev pub stopped : (ℕ → Bool) → List ℕ → Bool
stopped f [] = true
stopped f (b ∷ bs) = not (f b)

-- the rest doesn't extend the symbol
abbrev pub stops : Lexeme → List ℕ → Bool
stops x rest = stopped (extends x) rest

run_whole : (f : ℕ → Bool) (w rest : List ℕ) → list_all f w ≡ true → stopped f rest ≡ true → run f (w ++ rest) ≡ length w
run_whole f [] [] h s = refl
run_whole f [] (b ∷ rest) h s = rw (not-true (f b) s) refl
run_whole f (b ∷ w) rest h s =
    let both : (f b ≡ true) × (list_all f w ≡ true) = and_parts (f b) (list_all f w) h in
    rw both.0 (ap suc (run_whole f w rest both.1 s))

-- a letter is no other byte
letter_not : (b c : ℕ) → is_letter b ≡ true → is_letter c ≡ false → (b == c) ≡ false
letter_not b c h g = elim (cases_Bool (b == c)) [
  | inl e ↦ absurd (false≢true (sym g ∙ ap is_letter (sym (eqb-true b c e)) ∙ h))
  | inr e ↦ e
]

digit_not : (b c : ℕ) → is_digit b ≡ true → is_digit c ≡ false → (b == c) ≡ false
digit_not b c h g = elim (cases_Bool (b == c)) [
  | inl e ↦ absurd (false≢true (sym g ∙ ap is_digit (sym (eqb-true b c e)) ∙ h))
  | inr e ↦ e
]

digit_no_letter : (b : ℕ) → is_digit b ≡ true → is_letter b ≡ false
digit_no_letter b h =
    let both : (nat_le 48 b ≡ true) × (nat_le b 57 ≡ true) = and_parts (nat_le 48 b) (nat_le b 57) h in
    let l : b ≤ 57 = leb-true b 57 both.1 in
    let low : nat_le 65 b ≡ false = lt-leb 65 b (omega arith) in
    let high : nat_le 97 b ≡ false = lt-leb 97 b (omega arith) in
    rw (low, high) refl

letter_no_digit : (b : ℕ) → is_letter b ≡ true → is_digit b ≡ false
letter_no_digit b h = elim (cases_Bool (is_digit b)) [
  | inl e ↦ absurd (false≢true (sym (digit_no_letter b e) ∙ h))
  | inr e ↦ e
]

letter_front : (b : ℕ) (bs : List ℕ) → is_letter b ≡ true → front (b ∷ bs) ≡ name_at (b ∷ bs)
unfolding front
letter_front b bs h =
    rw (letter_not b 32 h refl, letter_not b 10 h refl, letter_not b 9 h refl, letter_not b 13 h refl, letter_not b 12 h refl, letter_not b 123 h refl, letter_not b 40 h refl, h) refl

digit_front : (b : ℕ) (bs : List ℕ) → is_digit b ≡ true → front (b ∷ bs) ≡ numeral_at (b ∷ bs)
unfolding front
digit_front b bs h =
    rw (digit_not b 32 h refl, digit_not b 10 h refl, digit_not b 9 h refl, digit_not b 13 h refl, digit_not b 12 h refl, digit_not b 123 h refl, digit_not b 40 h refl, digit_no_letter b h, h) refl

-- a word
letter_name : (b : ℕ) → is_letter b ≡ true → is_name_byte b ≡ true
letter_name b h = rw h refl

pub word_front : (w rest : List ℕ) → is_name_form w ≡ true → stopped is_name_byte rest ≡ true → front (w ++ rest) ≡ Symbol (kind_of_word w) (length w)
unfolding name_at
word_front [] rest h s = cc
word_front (b ∷ bs) rest h s =
    let both : (is_letter b ≡ true) × (list_all is_name_byte bs ≡ true) = and_parts (is_letter b) (list_all is_name_byte bs) h in
    let size : run is_name_byte ((b ∷ bs) ++ rest) ≡ length (b ∷ bs) = run_whole is_name_byte (b ∷ bs) rest (and_from (is_name_byte b) (list_all is_name_byte bs) (letter_name b both.0) both.1) s in
    letter_front b (bs ++ rest) both.0
    ∙ ap (λ n. Symbol (kind_of_word (take n ((b ∷ bs) ++ rest))) n) size
    ∙ ap (λ v. Symbol (kind_of_word v) (length (b ∷ bs))) (take_at (b ∷ bs) rest (length (b ∷ bs)) refl)

row_from-None : (n : ℕ) (xs : List (List ℕ)) (w : List ℕ) → is_among xs w ≡ false → row_from n xs w ≡ None
row_from-None n [] w h = refl
row_from-None n (x ∷ xs) w h =
    let both : (bytes_eq x w ≡ false) × (is_among xs w ≡ false) = or_parts (bytes_eq x w) (is_among xs w) h in
    rw both.0 (row_from-None (n + 1) xs w both.1)

name_kind : (w : List ℕ) → is_key_word w ≡ false → kind_of_word w ≡ symbol.Name
unfolding kind_of_word is_key_word
name_kind w h = rw (row_from-None 1 key_words (lowered w) h) refl

pub identifier_front : (w rest : List ℕ) → is_identifier w ≡ true → stopped is_name_byte rest ≡ true → front (w ++ rest) ≡ Symbol symbol.Name (length w)
unfolding is_identifier
identifier_front w rest h s =
    let both : (is_name_form w ≡ true) × (not (is_key_word w) ≡ true) = and_parts (is_name_form w) (not (is_key_word w)) h in
    word_front w rest both.0 s ∙ ap (λ k. Symbol k (length w)) (name_kind w (not-true (is_key_word w) both.1))

-- a numeral
digits_front : (w rest : List ℕ) → is_digits w ≡ true → stopped is_digit rest ≡ true → front (w ++ rest) ≡ (if nat_le (value_after 0 w) numeral_limit then Symbol symbol.Numeral (length w) else Fault (LongNumeral 1))
unfolding numeral_at
digits_front [] rest h s = cc
digits_front (b ∷ bs) rest h s =
    let both : (is_digit b ≡ true) × (list_all is_digit bs ≡ true) = and_parts (is_digit b) (list_all is_digit bs) h in
    let size : run is_digit ((b ∷ bs) ++ rest) ≡ length (b ∷ bs) = run_whole is_digit (b ∷ bs) rest h s in
    let F : ℕ → List ℕ → Front = λ n v. if nat_le (value_after 0 v) numeral_limit then Symbol symbol.Numeral n else Fault (LongNumeral 1) in
    digit_front b (bs ++ rest) both.0
    ∙ ap (λ n. F n (take n ((b ∷ bs) ++ rest))) size
    ∙ ap (F (length (b ∷ bs))) (take_at (b ∷ bs) rest (length (b ∷ bs)) refl)

pub numeral_front : (w rest : List ℕ) → is_numeral w ≡ true → stopped is_digit rest ≡ true → front (w ++ rest) ≡ Symbol symbol.Numeral (length w)
unfolding is_numeral
numeral_front w rest h s =
    let both : (is_digits w ≡ true) × (nat_le (value_after 0 w) numeral_limit ≡ true) = and_parts (is_digits w) (nat_le (value_after 0 w) numeral_limit) h in
    digits_front w rest both.0 s ∙ ap (λ b. if b then Symbol symbol.Numeral (length w) else Fault (LongNumeral 1)) both.1

-- a text
ended_is : (n : ℕ) → 2 ≤ n → ended n ≡ Symbol symbol.Text (n + 1)
ended_is n h = let e : (n == 1) ≡ false = ne_eqb n 1 (λ f. absurd (omega arith)) in rw e refl

abbrev pub quotes : ℕ → Bool
quotes b = b == 39

text_end : (n b : ℕ) (rest : List ℕ) → (b == 39) ≡ true → 2 ≤ n → stopped quotes rest ≡ true → text_after n (b ∷ rest) ≡ Symbol symbol.Text (n + 1)
unfolding text_after
text_end n b [] e h s = rw e (ended_is n h)
text_end n b (c ∷ rest) e h s = rw (e, not-true (c == 39) s) (ended_is n h)

text_runs : (bs rest : List ℕ) (n : ℕ) → ends_text bs ≡ true → 1 ≤ n → 3 ≤ n + length bs → stopped quotes rest ≡ true → text_after n (bs ++ rest) ≡ Symbol symbol.Text (n + length bs)
unfolding text_after
text_runs [] rest n h l m s = cc
text_runs (b ∷ []) rest n h l m s = text_end n b rest h (omega arith) s
text_runs (b ∷ c ∷ bs) rest n h l m s = elim (cases_Bool (b == 39)) [
  | inl e ↦
      let g : (c == 39 && ends_text bs) ≡ true = rw e at h in
      let both : ((c == 39) ≡ true) × (ends_text bs ≡ true) = and_parts (c == 39) (ends_text bs) g in
      let size : (n + 2) + length bs ≡ n + suc (suc (length bs)) = omega arith in
      rw (e, both.0) (text_runs bs rest (n + 2) both.1 (omega arith) (omega (arith, text_some bs both.1)) s ∙ ap (Symbol symbol.Text) size)
  | inr e ↦
      let g : (is_text_byte b && ends_text (c ∷ bs)) ≡ true = rw e at h in
      let both : (is_text_byte b ≡ true) × (ends_text (c ∷ bs) ≡ true) = and_parts (is_text_byte b) (ends_text (c ∷ bs)) g in
      let size : (n + 1) + suc (length bs) ≡ n + suc (suc (length bs)) = omega arith in
      rw (e, both.0) (text_runs (c ∷ bs) rest (n + 1) both.1 (omega arith) (omega arith) s ∙ ap (Symbol symbol.Text) size)
]
  where
    text_some : (cs : List ℕ) → ends_text cs ≡ true → 1 ≤ length cs
    text_some [] f = cc
    text_some (d ∷ cs) f = omega arith

quote_front : (b : ℕ) (bs : List ℕ) → b ≡ 39 → front (b ∷ bs) ≡ text_after 1 bs
unfolding front
quote_front b bs e = rw e refl

pub text_front : (w rest : List ℕ) → is_text w ≡ true → stopped quotes rest ≡ true → front (w ++ rest) ≡ Symbol symbol.Text (length w)
unfolding is_text
text_front [] rest h s = cc
text_front (b ∷ []) rest h s = cc
text_front (b ∷ c ∷ []) rest h s = cc
text_front (b ∷ c ∷ d ∷ bs) rest h s =
    let both : ((b == 39) ≡ true) × (ends_text (c ∷ d ∷ bs) ≡ true) = and_parts (b == 39) (ends_text (c ∷ d ∷ bs)) h in
    let size : 1 + length (c ∷ d ∷ bs) ≡ length (b ∷ c ∷ d ∷ bs) = omega arith in
    quote_front b ((c ∷ d ∷ bs) ++ rest) (eqb-true b 39 both.0) ∙ text_runs (c ∷ d ∷ bs) rest 1 both.1 (omega arith) (omega arith) s ∙ ap (Symbol symbol.Text) size

-- a hole
sort_letters : (t : Sort) → list_all is_letter (sort_name t) ≡ true
sort_letters sort.Program = refl
sort_letters _ = refl

sort_named-name : (t : Sort) → sort_named (sort_name t) ≡ Some t
unfolding sort_named
sort_named-name sort.Program = refl
sort_named-name _ = refl

pub hole_front : (t : Sort) (rest : List ℕ) → stopped is_letter rest ≡ true → front (63 ∷ sort_name t ++ rest) ≡ Symbol (symbol.Hole t) (length (63 ∷ sort_name t))
unfolding front hole_at
hole_front t rest s =
    let size : run is_letter (sort_name t ++ rest) ≡ length (sort_name t) = run_whole is_letter (sort_name t) rest (sort_letters t) s in
    let more : length (sort_name t) + 1 ≡ suc (length (sort_name t)) = omega arith in
    ap (λ n. hole_or_fault (sort_named (take n (sort_name t ++ rest))) (n + 1)) size
    ∙ ap (λ v. hole_or_fault (sort_named v) (length (sort_name t) + 1)) (take_at (sort_name t) rest (length (sort_name t)) refl)
    ∙ ap (λ o. hole_or_fault o (length (sort_name t) + 1)) (sort_named-name t)
    ∙ ap (Symbol (symbol.Hole t)) more

-- a mark of one byte
mark_single : (x : Lexeme) (b row : ℕ) (rest : List ℕ) → single_mark b ≡ Some row → ((c : ℕ) → extends x c ≡ false → double_mark b c ≡ None) → stops x rest ≡ true → mark_at (b ∷ rest) ≡ Symbol (symbol.Mark row) 1
unfolding mark_at
mark_single x b row [] e d s = rw e refl
mark_single x b row (c ∷ rest) e d s = rw (d c (not-true (extends x c) s), e) refl

paren_no_star : (rest : List ℕ) → stops lexeme.OpenParen rest ≡ true → begins_with 42 rest ≡ false
unfolding extends
paren_no_star [] s = refl
paren_no_star (c ∷ rest) s = (or_parts (c == 46) (c == 42) (not-true (c == 46 || c == 42) s)).1

paren_front : (rest : List ℕ) → stops lexeme.OpenParen rest ≡ true → front (40 ∷ rest) ≡ mark_at (40 ∷ rest)
unfolding front
paren_front rest s = rw (paren_no_star rest s) refl

-- the kind of a lexeme's symbol
unfoldable pub kind_of : Lexeme → SymbolKind
kind_of lexeme.Identifier = symbol.Name
kind_of lexeme.Numeral = symbol.Numeral
kind_of lexeme.Text = symbol.Text
kind_of (lexeme.Hole t) = symbol.Hole t
kind_of lexeme.Plus = symbol.Mark 1
kind_of lexeme.Minus = symbol.Mark 2
kind_of lexeme.Star = symbol.Mark 3
kind_of lexeme.Slash = symbol.Mark 4
kind_of lexeme.Equal = symbol.Mark 5
kind_of lexeme.Less = symbol.Mark 6
kind_of lexeme.Greater = symbol.Mark 7
kind_of lexeme.OpenBracket = symbol.Mark 8
kind_of lexeme.CloseBracket = symbol.Mark 9
kind_of lexeme.Dot = symbol.Mark 10
kind_of lexeme.Comma = symbol.Mark 11
kind_of lexeme.Colon = symbol.Mark 12
kind_of lexeme.Semicolon = symbol.Mark 13
kind_of lexeme.Caret = symbol.Mark 14
kind_of lexeme.OpenParen = symbol.Mark 15
kind_of lexeme.CloseParen = symbol.Mark 16
kind_of lexeme.Unequal = symbol.Mark 17
kind_of lexeme.AtMost = symbol.Mark 18
kind_of lexeme.AtLeast = symbol.Mark 19
kind_of lexeme.Becomes = symbol.Mark 20
kind_of lexeme.DotDot = symbol.Mark 21
kind_of x = kind_of_word (spelling_of x)

pub lexeme_of-kind_of : (x : Lexeme) → lexeme_of (kind_of x) ≡ x
unfolding lexeme_of kind_of kind_of_word
lexeme_of-kind_of (lexeme.Hole t) = refl
lexeme_of-kind_of _ = refl

pub kept-written : (x : Lexeme) (w : List ℕ) → IsProper x w → kept (kind_of x) (spelling_of x ++ w) ≡ w
unfolding kept kind_of kind_of_word
kept-written lexeme.Identifier w p = refl
kept-written lexeme.Numeral w p = refl
kept-written lexeme.Text w p = refl
kept-written _ w p = sym p

-- what stands at the beginning of a symbol as it is written
pub front_written : (x : Lexeme) (w rest : List ℕ) → IsProper x w → stops x rest ≡ true → front ((spelling_of x ++ w) ++ rest) ≡ Symbol (kind_of x) (length (spelling_of x ++ w))
unfolding extends kind_of front single_mark double_mark mark_at
front_written lexeme.Identifier w rest p s = identifier_front w rest p s
front_written lexeme.Numeral w rest p s = numeral_front w rest p s
front_written lexeme.Text w rest p s = text_front w rest p s
front_written (lexeme.Hole t) w rest p s = rw (p, append-nil (sort_name t)) (hole_front t rest s)
front_written lexeme.Plus w rest p s = rw p (mark_single lexeme.Plus 43 1 rest refl (λ c h. refl) s)
front_written lexeme.Minus w rest p s = rw p (mark_single lexeme.Minus 45 2 rest refl (λ c h. refl) s)
front_written lexeme.Star w rest p s = rw p (mark_single lexeme.Star 42 3 rest refl (λ c h. refl) s)
front_written lexeme.Slash w rest p s = rw p (mark_single lexeme.Slash 47 4 rest refl (λ c h. refl) s)
front_written lexeme.Equal w rest p s = rw p (mark_single lexeme.Equal 61 5 rest refl (λ c h. refl) s)
front_written lexeme.OpenBracket w rest p s = rw p (mark_single lexeme.OpenBracket 91 8 rest refl (λ c h. refl) s)
front_written lexeme.CloseBracket w rest p s = rw p (mark_single lexeme.CloseBracket 93 9 rest refl (λ c h. refl) s)
front_written lexeme.Comma w rest p s = rw p (mark_single lexeme.Comma 44 11 rest refl (λ c h. refl) s)
front_written lexeme.Semicolon w rest p s = rw p (mark_single lexeme.Semicolon 59 13 rest refl (λ c h. refl) s)
front_written lexeme.Caret w rest p s = rw p (mark_single lexeme.Caret 94 14 rest refl (λ c h. refl) s)
front_written lexeme.CloseParen w rest p s = rw p (mark_single lexeme.CloseParen 41 16 rest refl (λ c h. refl) s)
front_written lexeme.Less w rest p s = rw p (mark_single lexeme.Less 60 6 rest refl (λ c h. let n : ((c == 62) ≡ false) × ((c == 61) ≡ false) = or_parts (c == 62) (c == 61) h in rw (n.0, n.1) refl) s)
front_written lexeme.Greater w rest p s = rw p (mark_single lexeme.Greater 62 7 rest refl (λ c h. rw h refl) s)
front_written lexeme.Dot w rest p s = rw p (mark_single lexeme.Dot 46 10 rest refl (λ c h. let n : ((c == 46) ≡ false) × ((c == 41) ≡ false) = or_parts (c == 46) (c == 41) h in rw (n.0, n.1) refl) s)
front_written lexeme.Colon w rest p s = rw p (mark_single lexeme.Colon 58 12 rest refl (λ c h. rw h refl) s)
front_written lexeme.OpenParen w rest p s = rw p (paren_front rest s ∙ mark_single lexeme.OpenParen 40 15 rest refl (λ c h. let n : ((c == 46) ≡ false) × ((c == 42) ≡ false) = or_parts (c == 46) (c == 42) h in rw n.0 refl) s)
front_written lexeme.Unequal w rest p s = rw p refl
front_written lexeme.AtMost w rest p s = rw p refl
front_written lexeme.AtLeast w rest p s = rw p refl
front_written lexeme.Becomes w rest p s = rw p refl
front_written lexeme.DotDot w rest p s = rw p refl
front_written x w rest p s = rw p (word_front (spelling_of x) rest refl s)

-- a byte of white space extends nothing
blank_extends : (x : Lexeme) → (extends x 32 ≡ false) × (extends x 10 ≡ false)
unfolding extends
blank_extends (lexeme.Hole t) = (refl, refl)
blank_extends _ = (refl, refl)

pub white_stops : (x : Lexeme) (b : ℕ) → (b == 32 || b == 10) ≡ true → not (extends x b) ≡ true
white_stops x b h = elim (or_cases (b == 32) (b == 10) h) [
  | inl e ↦ not_from_false (extends x b) (ap (extends x) (eqb-true b 32 e) ∙ (blank_extends x).0)
  | inr e ↦ not_from_false (extends x b) (ap (extends x) (eqb-true b 10 e) ∙ (blank_extends x).1)
]

-- any letter extends what `a` does, and any digit what `0` does
pub letter_extends : (x : Lexeme) (b : ℕ) → is_letter b ≡ true → extends x b ≡ extends x 97
unfolding extends
letter_extends lexeme.Identifier b h = rw h refl
letter_extends lexeme.Numeral b h = letter_no_digit b h
letter_extends lexeme.Text b h = letter_not b 39 h refl
letter_extends (lexeme.Hole t) b h = h
letter_extends lexeme.Less b h = rw (letter_not b 62 h refl, letter_not b 61 h refl) refl
letter_extends lexeme.Greater b h = letter_not b 61 h refl
letter_extends lexeme.Dot b h = rw (letter_not b 46 h refl, letter_not b 41 h refl) refl
letter_extends lexeme.Colon b h = letter_not b 61 h refl
letter_extends lexeme.OpenParen b h = rw (letter_not b 46 h refl, letter_not b 42 h refl) refl
letter_extends lexeme.Plus b h = refl
letter_extends lexeme.Minus b h = refl
letter_extends lexeme.Star b h = refl
letter_extends lexeme.Slash b h = refl
letter_extends lexeme.Equal b h = refl
letter_extends lexeme.OpenBracket b h = refl
letter_extends lexeme.CloseBracket b h = refl
letter_extends lexeme.Comma b h = refl
letter_extends lexeme.Semicolon b h = refl
letter_extends lexeme.Caret b h = refl
letter_extends lexeme.CloseParen b h = refl
letter_extends lexeme.Unequal b h = refl
letter_extends lexeme.AtMost b h = refl
letter_extends lexeme.AtLeast b h = refl
letter_extends lexeme.Becomes b h = refl
letter_extends lexeme.DotDot b h = refl
letter_extends _ b h = rw h refl

pub digit_extends : (x : Lexeme) (b : ℕ) → is_digit b ≡ true → extends x b ≡ extends x 48
unfolding extends
digit_extends lexeme.Identifier b h = rw (digit_no_letter b h, h) refl
digit_extends lexeme.Numeral b h = h
digit_extends lexeme.Text b h = digit_not b 39 h refl
digit_extends (lexeme.Hole t) b h = digit_no_letter b h
digit_extends lexeme.Less b h = rw (digit_not b 62 h refl, digit_not b 61 h refl) refl
digit_extends lexeme.Greater b h = digit_not b 61 h refl
digit_extends lexeme.Dot b h = rw (digit_not b 46 h refl, digit_not b 41 h refl) refl
digit_extends lexeme.Colon b h = digit_not b 61 h refl
digit_extends lexeme.OpenParen b h = rw (digit_not b 46 h refl, digit_not b 42 h refl) refl
digit_extends lexeme.Plus b h = refl
digit_extends lexeme.Minus b h = refl
digit_extends lexeme.Star b h = refl
digit_extends lexeme.Slash b h = refl
digit_extends lexeme.Equal b h = refl
digit_extends lexeme.OpenBracket b h = refl
digit_extends lexeme.CloseBracket b h = refl
digit_extends lexeme.Comma b h = refl
digit_extends lexeme.Semicolon b h = refl
digit_extends lexeme.Caret b h = refl
digit_extends lexeme.CloseParen b h = refl
digit_extends lexeme.Unequal b h = refl
digit_extends lexeme.AtMost b h = refl
digit_extends lexeme.AtLeast b h = refl
digit_extends lexeme.Becomes b h = refl
digit_extends lexeme.DotDot b h = refl
digit_extends _ b h = rw (digit_no_letter b h, h) refl
