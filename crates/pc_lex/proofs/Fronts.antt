-- What stands at the beginning of a text, by its first byte.
use Rattle.std.proofs.Common.{◌≡◌, ◌≢◌, ℕ, ◌<◌, true, false, ◌==◌, if◌then◌else◌, List, [], ◌∷◌, length, drop, get_or, refl, arith}
use Rattle.std.proofs.lemmas.Bool.{eq-eqb, ne_eqb}
use Rattle.pc_syntax.specs.Words.{is_letter, is_digit}
use Rattle.pc_lex.specs.declared.front.Front.TheVariants.{End, Blank}
use Rattle.pc_lex.specs.Comments.{opens_by_star, comment_after}
use Rattle.pc_lex.specs.Quoted.{text_after}
use Rattle.pc_lex.specs.Marks.{mark_at}
use Rattle.pc_lex.specs.Names.{name_at}
use Rattle.pc_lex.specs.Numerals.{numeral_at}
use Rattle.pc_lex.specs.Holes.{hole_at}
use Rattle.pc_lex.specs.Fronts.{front, is_blank}

-- what stands at the beginning, by the first byte
front_first : (xs : List ℕ) → 0 < length xs → front xs ≡ (if is_blank (get_or xs 0 0) then Blank else if get_or xs 0 0 == 123 then comment_after 1 (drop 1 xs) else if opens_by_star xs then comment_after 2 (drop 2 xs) else if is_letter (get_or xs 0 0) then name_at xs else if is_digit (get_or xs 0 0) then numeral_at xs else if get_or xs 0 0 == 39 then text_after 1 (drop 1 xs) else if get_or xs 0 0 == 63 then hole_at (drop 1 xs) else mark_at xs)
unfolding front
front_first [] h = absurd (omega arith)
front_first (b ∷ bs) h = refl

pub front_end : (xs : List ℕ) → length xs ≡ 0 → front xs ≡ End
unfolding front
front_end [] h = refl
front_end (b ∷ bs) h = absurd (omega arith)

pub front_blank : (xs : List ℕ) → 0 < length xs → is_blank (get_or xs 0 0) ≡ true → front xs ≡ Blank
front_blank xs some a = rw (front_first xs some, a) refl

pub front_brace : (xs : List ℕ) → 0 < length xs → is_blank (get_or xs 0 0) ≡ false → get_or xs 0 0 ≡ 123 → front xs ≡ comment_after 1 (drop 1 xs)
front_brace xs some a b = rw (front_first xs some, a, eq-eqb (get_or xs 0 0) 123 b) refl

pub front_star : (xs : List ℕ) → 0 < length xs → is_blank (get_or xs 0 0) ≡ false → get_or xs 0 0 ≢ 123 → opens_by_star xs ≡ true → front xs ≡ comment_after 2 (drop 2 xs)
front_star xs some a b c = rw (front_first xs some, a, ne_eqb (get_or xs 0 0) 123 b, c) refl

pub front_name : (xs : List ℕ) → 0 < length xs → is_blank (get_or xs 0 0) ≡ false → get_or xs 0 0 ≢ 123 → opens_by_star xs ≡ false → is_letter (get_or xs 0 0) ≡ true → front xs ≡ name_at xs
front_name xs some a b c d = rw (front_first xs some, a, ne_eqb (get_or xs 0 0) 123 b, c, d) refl

pub front_numeral : (xs : List ℕ) → 0 < length xs → is_blank (get_or xs 0 0) ≡ false → get_or xs 0 0 ≢ 123 → opens_by_star xs ≡ false → is_letter (get_or xs 0 0) ≡ false → is_digit (get_or xs 0 0) ≡ true → front xs ≡ numeral_at xs
front_numeral xs some a b c d e = rw (front_first xs some, a, ne_eqb (get_or xs 0 0) 123 b, c, d, e) refl

pub front_text : (xs : List ℕ) → 0 < length xs → is_blank (get_or xs 0 0) ≡ false → get_or xs 0 0 ≢ 123 → opens_by_star xs ≡ false → is_letter (get_or xs 0 0) ≡ false → is_digit (get_or xs 0 0) ≡ false → get_or xs 0 0 ≡ 39 → front xs ≡ text_after 1 (drop 1 xs)
front_text xs some a b c d e f = rw (front_first xs some, a, ne_eqb (get_or xs 0 0) 123 b, c, d, e, eq-eqb (get_or xs 0 0) 39 f) refl

pub front_hole : (xs : List ℕ) → 0 < length xs → is_blank (get_or xs 0 0) ≡ false → get_or xs 0 0 ≢ 123 → opens_by_star xs ≡ false → is_letter (get_or xs 0 0) ≡ false → is_digit (get_or xs 0 0) ≡ false → get_or xs 0 0 ≢ 39 → get_or xs 0 0 ≡ 63 → front xs ≡ hole_at (drop 1 xs)
front_hole xs some a b c d e f g = rw (front_first xs some, a, ne_eqb (get_or xs 0 0) 123 b, c, d, e, ne_eqb (get_or xs 0 0) 39 f, eq-eqb (get_or xs 0 0) 63 g) refl

pub front_mark : (xs : List ℕ) → 0 < length xs → is_blank (get_or xs 0 0) ≡ false → get_or xs 0 0 ≢ 123 → opens_by_star xs ≡ false → is_letter (get_or xs 0 0) ≡ false → is_digit (get_or xs 0 0) ≡ false → get_or xs 0 0 ≢ 39 → get_or xs 0 0 ≢ 63 → front xs ≡ mark_at xs
front_mark xs some a b c d e f g = rw (front_first xs some, a, ne_eqb (get_or xs 0 0) 123 b, c, d, e, ne_eqb (get_or xs 0 0) 39 f, ne_eqb (get_or xs 0 0) 63 g) refl
