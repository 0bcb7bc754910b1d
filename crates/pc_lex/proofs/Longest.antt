-- The symbol with which a text begins is the longest beginning of it that is one: what stands first is told by the bytes of the symbol and the next one.
use Rattle.std.proofs.Common.{◌≡◌, ℕ, zero, suc, ◌+◌, ◌<◌, ◌≤◌, Bool, true, false, ◌&&◌, ◌==◌, if◌then◌else◌, nat_le, List, [], ◌∷◌, length, take, drop, Option, Some, None, refl, ap, sym, ◌∙◌, arith, inl, inr}
use Rattle.std.proofs.lemmas.Bool.{cases_Bool, cond_both}
use Rattle.std.proofs.lemmas.List.{take-take, length-take-le}
use Rattle.pc_syntax.specs.declared.sort.Sort.{Sort}
use Rattle.pc_syntax.specs.Words.{is_letter, is_digit, is_name_byte, is_text_byte, value_after, numeral_limit}
use Rattle.pc_lex.specs.declared.error.LexError.TheVariants.{BadByte, OpenString, EmptyString, LongNumeral}
use Rattle.pc_lex.specs.declared.symbol.SymbolKind.{SymbolKind}
use Rattle.pc_lex.specs.declared.symbol.SymbolKind.TheVariants.{Numeral, Text}
use Rattle.pc_lex.specs.declared.front.Front.{Front}
use Rattle.pc_lex.specs.declared.front.Front.TheVariants.{Blank, Comment, Symbol, Fault}
use Rattle.pc_lex.specs.Runs.{run}
use Rattle.pc_lex.specs.Comments.{begins_with, opens_by_star, comment_after}
use Rattle.pc_lex.specs.Quoted.{text_after, ended, broken}
use Rattle.pc_lex.specs.Marks.{mark_at, single_mark, double_mark, single_or_fault, double_or}
use Rattle.pc_lex.specs.Names.{name_at}
use Rattle.pc_lex.specs.Numerals.{numeral_at}
use Rattle.pc_lex.specs.Holes.{hole_at, hole_or_fault, sort_named}
use Rattle.pc_lex.specs.Fronts.{front, Within, is_blank}
use Rattle.pc_lex.specs.LengthLaws.{front_within}
use Rattle.pc_lex.specs.Laws.{LongestFirst}

-- where the first is a symbol that ends by a place, so is the second
abbrev Kept : Front → Front → ℕ → Type 0
Kept f g m = (k : SymbolKind) (n : ℕ) → f ≡ Symbol k n → n ≤ m → g ≡ Symbol k n

-- it is no symbol
abbrev None_there : Front → Type 0
None_there f = (k : SymbolKind) (n : ℕ) → f ≡ Symbol k n → ⊥

-- a symbol that stands there is longer
abbrev Longer : Front → ℕ → Type 0
Longer f m = (k : SymbolKind) (n : ℕ) → f ≡ Symbol k n → m < n

either : (t : Bool) (x y v w : Front) (m : ℕ) → (t ≡ true → Kept x v m) → (t ≡ false → Kept y w m) → Kept (if t then x else y) (if t then v else w) m
either true x y v w m f g = f refl
either false x y v w m f g = g refl

either_longer : (t : Bool) (x y : Front) (m : ℕ) → (t ≡ true → Longer x m) → (t ≡ false → Longer y m) → Longer (if t then x else y) m
either_longer true x y m f g = f refl
either_longer false x y m f g = g refl

-- a row that ends by a place is there in the part of the text before it
run_take : (p : ℕ → Bool) (bs : List ℕ) (m : ℕ) → run p bs ≤ m → run p (take m bs) ≡ run p bs
run_take p [] zero h = refl
run_take p [] (suc m) h = refl
run_take p (b ∷ bs) zero h = elim (cases_Bool (p b)) [
  | inl e ↦ let long : suc (run p bs) ≤ 0 = rw e at h in absurd (omega arith)
  | inr e ↦ rw e refl
]
run_take p (b ∷ bs) (suc m) h = elim (cases_Bool (p b)) [
  | inl e ↦ let long : suc (run p bs) ≤ suc m = rw e at h in rw e (ap suc (run_take p bs m (omega arith)))
  | inr e ↦ rw e refl
]

-- no symbol begins as a comment does
no_comment : (n : ℕ) (bs : List ℕ) → None_there (comment_after n bs)
unfolding comment_after
no_comment n [] k m e = cc
no_comment n (b ∷ bs) k m e = elim (cases_Bool (b == 125)) [
  | inl f ↦ let bad : Comment (n + 1) ≡ Symbol k m = rw f at e in cc
  | inr f ↦ let rest : (if b == 42 && begins_with 41 bs then Comment (n + 2) else comment_after (n + 1) bs) ≡ Symbol k m = rw f at e in
      elim (cases_Bool (b == 42 && begins_with 41 bs)) [
        | inl g ↦ let bad : Comment (n + 2) ≡ Symbol k m = rw g at rest in cc
        | inr g ↦ let more : comment_after (n + 1) bs ≡ Symbol k m = rw g at rest in no_comment (n + 1) bs k m more
      ]
]

kept_none : (f g : Front) (m : ℕ) → None_there f → Kept f g m
kept_none f g m h k n e i = absurd (h k n e)

-- names and numerals
module _ (xs : List ℕ) (m : ℕ) where
  word_take : (p : ℕ → Bool) → run p xs ≤ m → take (run p (take m xs)) (take m xs) ≡ take (run p xs) xs
  word_take p h = ap (λ r. take r (take m xs)) (run_take p xs m h) ∙ take-take (run p xs) m xs h

  name_kept : Kept (name_at xs) (name_at (take m xs)) m
  unfolding name_at
  name_kept k n e i =
      let r : run is_name_byte xs ≡ n = cc in
      let within : run is_name_byte xs ≤ m = omega arith in
      rw (word_take is_name_byte within, run_take is_name_byte xs m within) e

  numeral_kept : Kept (numeral_at xs) (numeral_at (take m xs)) m
  unfolding numeral_at
  numeral_kept k n e i = elim (cases_Bool (nat_le (value_after 0 (take (run is_digit xs) xs)) numeral_limit)) [
    | inl f ↦
        let s : Symbol Numeral (run is_digit xs) ≡ Symbol k n = rw f at e in
        let r : run is_digit xs ≡ n = cc in
        let within : run is_digit xs ≤ m = omega arith in
        rw (word_take is_digit within, run_take is_digit xs m within, f) s
    | inr f ↦ let bad : Fault (LongNumeral 1) ≡ Symbol k n = rw f at e in cc
  ]

-- holes
hole_kept : (bs : List ℕ) (m : ℕ) → Kept (hole_at bs) (hole_at (take m bs)) (suc m)
unfolding hole_at
hole_kept bs m k n e i = go (sort_named (take (run is_letter bs) bs)) refl
  where
    go : (o : Option Sort) → sort_named (take (run is_letter bs) bs) ≡ o → hole_or_fault (sort_named (take (run is_letter (take m bs)) (take m bs))) (run is_letter (take m bs) + 1) ≡ Symbol k n
    go None f = let bad : Fault (BadByte 1) ≡ Symbol k n = rw f at e in cc
    go (Some s) f =
        let t : hole_or_fault (Some s) (run is_letter bs + 1) ≡ Symbol k n = rw f at e in
        let r : run is_letter bs + 1 ≡ n = cc in
        let within : run is_letter bs ≤ m = omega arith in
        rw (word_take bs m is_letter within, run_take is_letter bs m within) e

-- marks
single_short : (o : Option ℕ) (k : SymbolKind) (n : ℕ) → single_or_fault o ≡ Symbol k n → n ≡ 1
single_short None k n e = cc
single_short (Some row) k n e = cc

double_kept : (o : Option ℕ) (f : Front) → Kept (double_or o f) f 1
double_kept None f k n e i = e
double_kept (Some row) f k n e i = let r : 2 ≡ n = cc in absurd (omega arith)

mark_kept : (b : ℕ) (bs : List ℕ) (m : ℕ) → Kept (mark_at (b ∷ bs)) (mark_at (b ∷ take m bs)) (suc m)
unfolding mark_at
mark_kept b [] zero k n e i = e
mark_kept b [] (suc m) k n e i = e
mark_kept b (c ∷ bs) zero k n e i = double_kept (double_mark b c) (single_or_fault (single_mark b)) k n e i
mark_kept b (c ∷ bs) (suc m) k n e i = e

-- texts
ended_longer : (n : ℕ) → Longer (ended n) n
ended_longer n k m e = elim (cases_Bool (n == 1)) [
  | inl f ↦ let bad : Fault (EmptyString 1) ≡ Symbol k m = rw f at e in cc
  | inr f ↦ let s : Symbol Text (n + 1) ≡ Symbol k m = rw f at e in let r : n + 1 ≡ m = cc in omega arith
]

broken_none : (n b : ℕ) → None_there (broken n b)
broken_none n b k m e = elim (cases_Bool (b == 10)) [
  | inl f ↦ let bad : Fault (OpenString 1) ≡ Symbol k m = rw f at e in cc
  | inr f ↦ let bad : Fault (BadByte (n + 1)) ≡ Symbol k m = rw f at e in cc
]

longer_none : (f : Front) (m : ℕ) → None_there f → Longer f m
longer_none f m h k n e = absurd (h k n e)

longer_less : (f : Front) (m j : ℕ) → m ≤ j → Longer f j → Longer f m
longer_less f m j i h k n e = let g : j < n = h k n e in omega arith

open_none : (x : ℕ) → None_there (Fault (OpenString x))
open_none x k m e = cc

text_longer : (n : ℕ) (bs : List ℕ) → Longer (text_after n bs) n
unfolding text_after
text_longer n [] = longer_none (Fault (OpenString 1)) n (open_none 1)
text_longer n (b ∷ []) =
    either_longer (b == 39) (ended n) (if is_text_byte b then Fault (OpenString 1) else broken n b) n
    (λ e. ended_longer n)
    (λ e. either_longer (is_text_byte b) (Fault (OpenString 1)) (broken n b) n (λ f. longer_none (Fault (OpenString 1)) n (open_none 1)) (λ f. longer_none (broken n b) n (broken_none n b)))
text_longer n (b ∷ c ∷ bs) =
    either_longer (b == 39) (if c == 39 then text_after (n + 2) bs else ended n) (if is_text_byte b then text_after (n + 1) (c ∷ bs) else broken n b) n
    (λ e. either_longer (c == 39) (text_after (n + 2) bs) (ended n) n (λ f. longer_less (text_after (n + 2) bs) n (n + 2) (omega arith) (text_longer (n + 2) bs)) (λ f. ended_longer n))
    (λ e. either_longer (is_text_byte b) (text_after (n + 1) (c ∷ bs)) (broken n b) n (λ f. longer_less (text_after (n + 1) (c ∷ bs)) n (n + 1) (omega arith) (text_longer (n + 1) (c ∷ bs))) (λ f. longer_none (broken n b) n (broken_none n b)))

-- what is longer than a place is not asked for
kept_longer : (f g : Front) (m : ℕ) → Longer f m → Kept f g m
kept_longer f g m h k n e i = let r : m < n = h k n e in absurd (omega arith)

kept_same : (f : Front) (m : ℕ) → Kept f f m
kept_same f m k n e i = e

kept_more : (f g : Front) (m j : ℕ) → m ≡ j → Kept f g j → Kept f g m
kept_more f g m j e h k n s i = h k n s (omega arith)

text_kept : (n : ℕ) (bs : List ℕ) (m : ℕ) → Kept (text_after n bs) (text_after n (take m bs)) (n + m)
unfolding text_after
text_kept n [] zero = kept_same (Fault (OpenString 1)) (n + 0)
text_kept n [] (suc m) = kept_same (Fault (OpenString 1)) (n + suc m)
text_kept n (b ∷ bs) zero = kept_more (text_after n (b ∷ bs)) (Fault (OpenString 1)) (n + 0) n (omega arith) (kept_longer (text_after n (b ∷ bs)) (Fault (OpenString 1)) n (text_longer n (b ∷ bs)))
text_kept n (b ∷ []) (suc zero) = kept_same (text_after n (b ∷ [])) (n + 1)
text_kept n (b ∷ []) (suc (suc m)) = kept_same (text_after n (b ∷ [])) (n + suc (suc m))
text_kept n (b ∷ c ∷ bs) (suc zero) =
    either (b == 39) (if c == 39 then text_after (n + 2) bs else ended n) (if is_text_byte b then text_after (n + 1) (c ∷ bs) else broken n b) (ended n) (if is_text_byte b then Fault (OpenString 1) else broken n b) (n + 1)
    (λ e. kept_doubled)
    (λ e. either (is_text_byte b) (text_after (n + 1) (c ∷ bs)) (broken n b) (Fault (OpenString 1)) (broken n b) (n + 1)
    (λ f. kept_longer (text_after (n + 1) (c ∷ bs)) (Fault (OpenString 1)) (n + 1) (text_longer (n + 1) (c ∷ bs)))
    (λ f. kept_same (broken n b) (n + 1)))
  where
    kept_doubled : Kept (if c == 39 then text_after (n + 2) bs else ended n) (ended n) (n + 1)
    kept_doubled = cond_both (c == 39) (text_after (n + 2) bs) (ended n) (λ f. Kept f (ended n) (n + 1))
        (λ f. kept_longer (text_after (n + 2) bs) (ended n) (n + 1) (longer_less (text_after (n + 2) bs) (n + 1) (n + 2) (omega arith) (text_longer (n + 2) bs)))
        (λ f. kept_same (ended n) (n + 1))
text_kept n (b ∷ c ∷ bs) (suc (suc m)) =
    either (b == 39) (if c == 39 then text_after (n + 2) bs else ended n) (if is_text_byte b then text_after (n + 1) (c ∷ bs) else broken n b)
    (if c == 39 then text_after (n + 2) (take m bs) else ended n) (if is_text_byte b then text_after (n + 1) (c ∷ take m bs) else broken n b) (n + suc (suc m))
    (λ e. either (c == 39) (text_after (n + 2) bs) (ended n) (text_after (n + 2) (take m bs)) (ended n) (n + suc (suc m))
    (λ f. kept_more (text_after (n + 2) bs) (text_after (n + 2) (take m bs)) (n + suc (suc m)) (n + 2 + m) (omega arith) (text_kept (n + 2) bs m))
    (λ f. kept_same (ended n) (n + suc (suc m))))
    (λ e. either (is_text_byte b) (text_after (n + 1) (c ∷ bs)) (broken n b) (text_after (n + 1) (c ∷ take m bs)) (broken n b) (n + suc (suc m))
    (λ f. kept_more (text_after (n + 1) (c ∷ bs)) (text_after (n + 1) (c ∷ take m bs)) (n + suc (suc m)) (n + 1 + suc m) (omega arith) (text_kept (n + 1) (c ∷ bs) (suc m)))
    (λ f. kept_same (broken n b) (n + suc (suc m))))

-- the opening of a comment
star_take : (b : ℕ) (bs : List ℕ) (m : ℕ) → opens_by_star (b ∷ bs) ≡ false → opens_by_star (b ∷ take m bs) ≡ false
star_take b [] zero h = h
star_take b [] (suc m) h = h
star_take b (c ∷ bs) zero h = elim (cases_Bool (b == 40)) [ inl e ↦ rw e refl | inr e ↦ rw e refl ]
star_take b (c ∷ bs) (suc m) h = h

starred : (s t : Bool) (x y v w : Front) (m : ℕ) → (s ≡ false → t ≡ false) → None_there x → (s ≡ false → Kept y w m) → Kept (if s then x else y) (if t then v else w) m
starred true t x y v w m h none keep = kept_none x (if t then v else w) m none
starred false t x y v w m h none keep = rw (h refl) (keep refl)

blank_none : None_there Blank
blank_none k n e = cc

-- what stands at the beginning of a text stands at that of a part of it that has all of the symbol
cons_kept : (b : ℕ) (bs : List ℕ) (m : ℕ) → Kept (front (b ∷ bs)) (front (b ∷ take m bs)) (suc m)
unfolding front
cons_kept b bs m =
    let ts : List ℕ = take m bs in
    either (is_blank b) Blank _ Blank _ (suc m)
    (λ e. kept_same Blank (suc m))
    (λ e. either (b == 123) (comment_after 1 bs) _ (comment_after 1 ts) _ (suc m)
    (λ f. kept_none (comment_after 1 bs) (comment_after 1 ts) (suc m) (no_comment 1 bs))
    (λ f. starred (opens_by_star (b ∷ bs)) (opens_by_star (b ∷ ts)) (comment_after 2 (drop 1 bs)) _ (comment_after 2 (drop 1 ts)) _ (suc m) (star_take b bs m) (no_comment 2 (drop 1 bs))
    (λ g. either (is_letter b) (name_at (b ∷ bs)) _ (name_at (b ∷ ts)) _ (suc m)
    (λ h. name_kept (b ∷ bs) (suc m))
    (λ h. either (is_digit b) (numeral_at (b ∷ bs)) _ (numeral_at (b ∷ ts)) _ (suc m)
    (λ i. numeral_kept (b ∷ bs) (suc m))
    (λ i. either (b == 39) (text_after 1 bs) _ (text_after 1 ts) _ (suc m)
    (λ j. kept_more (text_after 1 bs) (text_after 1 ts) (suc m) (1 + m) (omega arith) (text_kept 1 bs m))
    (λ j. either (b == 63) (hole_at bs) (mark_at (b ∷ bs)) (hole_at ts) (mark_at (b ∷ ts)) (suc m)
    (λ l. hole_kept bs m)
    (λ l. mark_kept b bs m)))))))

front_kept : (text : List ℕ) (m : ℕ) → Kept (front text) (front (take m text)) m
unfolding front Within
front_kept [] m k n e i = cc
front_kept (b ∷ bs) zero k n e i =
    let h : (0 < n) × (n ≤ length (b ∷ bs)) = rw e at (front_within (b ∷ bs)) in absurd (omega (arith, h.0))
front_kept (b ∷ bs) (suc m) k n e i = cons_kept b bs m k n e i

pub longest_first : LongestFirst
unfolding Within
longest_first text k n e =
    let h : (0 < n) × (n ≤ length text) = rw e at (front_within text) in
    record {
      one = front_kept text n k n e (omega arith) ∙ ap (Symbol k) (sym (length-take-le n text h.1));
      longest = λ other more longer within one.
          let there : front (take more text) ≡ Symbol k n = front_kept text more k n e (omega arith) in
          let same : Symbol k n ≡ Symbol other (length (take more text)) = sym there ∙ one in
          let long : n ≡ length (take more text) = cc in
          omega (arith, length-take-le more text within, long, longer);
    }
