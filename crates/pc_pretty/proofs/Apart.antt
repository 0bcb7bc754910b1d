-- Which symbols may stand with nothing between them.
use Rattle.std.proofs.Common.{◌≡◌, ℕ, Bool, true, false, not, ◌||◌, ◌==◌, List, [], ◌∷◌, get_or, refl, ap, ◌∙◌, inl, inr}
use Rattle.std.proofs.lemmas.Bool.{and_parts, or_cases, or_parts, eqb-true, not-true}
use Rattle.std.specs.List.{list_all}
use Rattle.pc_syntax.specs.declared.lexeme.Lexeme.{Lexeme}
use Rattle.pc_syntax.specs.declared.lexeme.Lexeme.TheVariants as lexeme
use Rattle.pc_syntax.specs.Spellings.{spelling_of}
use Rattle.pc_syntax.specs.Words.{is_letter, is_digit, is_name_byte}

-- whether this byte, directly behind a symbol, would be read as a part of it
unfoldable pub extends : Lexeme → ℕ → Bool
extends lexeme.Identifier b = is_name_byte b
extends lexeme.Numeral b = is_digit b
extends lexeme.Text b = b == 39
extends (lexeme.Hole s) b = is_letter b
extends lexeme.Plus b = false
extends lexeme.Minus b = false
extends lexeme.Star b = false
extends lexeme.Slash b = false
extends lexeme.Equal b = false
extends lexeme.Less b = b == 62 || b == 61
extends lexeme.Greater b = b == 61
extends lexeme.OpenBracket b = false
extends lexeme.CloseBracket b = false
extends lexeme.Dot b = b == 46 || b == 41
extends lexeme.Comma b = false
extends lexeme.Colon b = b == 61
extends lexeme.Semicolon b = false
extends lexeme.Caret b = false
extends lexeme.OpenParen b = b == 46 || b == 42
extends lexeme.CloseParen b = false
extends lexeme.Unequal b = false
extends lexeme.AtMost b = false
extends lexeme.AtLeast b = false
extends lexeme.Becomes b = false
extends lexeme.DotDot b = false
extends _ b = is_name_byte b

-- the first byte of a symbol: a letter of a name and a digit of a numeral stand for all
unfoldable pub first_byte : Lexeme → ℕ
first_byte lexeme.Identifier = 97
first_byte lexeme.Numeral = 48
first_byte lexeme.Text = 39
first_byte x = get_or (spelling_of x) 0 0

-- the second may stand directly behind the first
abbrev pub apart : Lexeme → Lexeme → Bool
apart x y = not (extends x (first_byte y))

abbrev pub among : ℕ → List ℕ → Bool
among b [] = false
among b (c ∷ cs) = b == c || among b cs

-- the bytes of marks that stand directly behind a node: `( ) , . : ; [ ] ^`
abbrev pub closing : List ℕ
closing = 40 ∷ 41 ∷ 44 ∷ 46 ∷ 58 ∷ 59 ∷ 91 ∷ 93 ∷ 94 ∷ []

abbrev pub is_closing : Lexeme → Bool
is_closing y = among (first_byte y) closing

-- a symbol directly behind which each of these may stand
unfoldable pub good_last : Lexeme → Bool
good_last x = list_all (λ b. not (extends x b)) closing

-- a symbol that begins with none of `) * . =`
unfoldable pub good_first : Lexeme → Bool
good_first y = not (among (first_byte y) (41 ∷ 42 ∷ 46 ∷ 61 ∷ []))

-- a mark that none but these extends
unfoldable pub opening : Lexeme → Bool
opening lexeme.Plus = true
opening lexeme.Minus = true
opening lexeme.OpenBracket = true
opening lexeme.Dot = true
opening lexeme.Comma = true
opening lexeme.Colon = true
opening lexeme.Semicolon = true
opening lexeme.Caret = true
opening lexeme.OpenParen = true
opening lexeme.DotDot = true
opening _ = false

all_apart : (x : Lexeme) (b : ℕ) (cs : List ℕ) → list_all (λ c. not (extends x c)) cs ≡ true → among b cs ≡ true → not (extends x b) ≡ true
all_apart x b [] h m = cc
all_apart x b (c ∷ cs) h m =
    let both : (not (extends x c) ≡ true) × (list_all (λ d. not (extends x d)) cs ≡ true) = and_parts (not (extends x c)) (list_all (λ d. not (extends x d)) cs) h in
    elim (or_cases (b == c) (among b cs) m) [
      | inl e ↦ ap (λ d. not (extends x d)) (eqb-true b c e) ∙ both.0
      | inr n ↦ all_apart x b cs both.1 n
    ]

pub closing_apart : (x y : Lexeme) → good_last x ≡ true → is_closing y ≡ true → apart x y ≡ true
unfolding good_last
closing_apart x y h m = all_apart x (first_byte y) closing h m

-- what a first byte is not
first_not : (b : ℕ) → not (among b (41 ∷ 42 ∷ 46 ∷ 61 ∷ [])) ≡ true → ((b == 41) ≡ false) × ((b == 42) ≡ false) × ((b == 46) ≡ false) × ((b == 61) ≡ false)
first_not b h =
    let a : ((b == 41) ≡ false) × (among b (42 ∷ 46 ∷ 61 ∷ []) ≡ false) = or_parts (b == 41) (among b (42 ∷ 46 ∷ 61 ∷ [])) (not-true (among b (41 ∷ 42 ∷ 46 ∷ 61 ∷ [])) h) in
    let c : ((b == 42) ≡ false) × (among b (46 ∷ 61 ∷ []) ≡ false) = or_parts (b == 42) (among b (46 ∷ 61 ∷ [])) a.1 in
    let d : ((b == 46) ≡ false) × (among b (61 ∷ []) ≡ false) = or_parts (b == 46) (among b (61 ∷ [])) c.1 in
    (a.0, c.0, d.0, (or_parts (b == 61) false d.1).0)

pub opening_apart : (x y : Lexeme) → opening x ≡ true → good_first y ≡ true → apart x y ≡ true
unfolding opening good_first extends
opening_apart lexeme.Plus y h g = refl
opening_apart lexeme.Minus y h g = refl
opening_apart lexeme.OpenBracket y h g = refl
opening_apart lexeme.Dot y h g = let n : ((first_byte y == 41) ≡ false) × ((first_byte y == 42) ≡ false) × ((first_byte y == 46) ≡ false) × ((first_byte y == 61) ≡ false) = first_not (first_byte y) g in rw (n.2, n.0) refl
opening_apart lexeme.Comma y h g = refl
opening_apart lexeme.Colon y h g = let n : ((first_byte y == 41) ≡ false) × ((first_byte y == 42) ≡ false) × ((first_byte y == 46) ≡ false) × ((first_byte y == 61) ≡ false) = first_not (first_byte y) g in rw n.3 refl
opening_apart lexeme.Semicolon y h g = refl
opening_apart lexeme.Caret y h g = refl
opening_apart lexeme.OpenParen y h g = let n : ((first_byte y == 41) ≡ false) × ((first_byte y == 42) ≡ false) × ((first_byte y == 46) ≡ false) × ((first_byte y == 61) ≡ false) = first_not (first_byte y) g in rw (n.2, n.1) refl
opening_apart lexeme.DotDot y h g = refl
opening_apart _ y h g = cc

-- behind a good last symbol `(` may stand
pub paren_apart : (x y : Lexeme) → good_last x ≡ true → (first_byte y == 40) ≡ true → apart x y ≡ true
paren_apart x y h e = closing_apart x y h (ap (λ b. among b closing) (eqb-true (first_byte y) 40 e))

pub paren_first : (y : Lexeme) → (first_byte y == 40) ≡ true → good_first y ≡ true
unfolding good_first
paren_first y e = ap (λ b. not (among b (41 ∷ 42 ∷ 46 ∷ 61 ∷ []))) (eqb-true (first_byte y) 40 e)
