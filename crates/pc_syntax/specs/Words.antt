-- What a name, a numeral, a text and a comment are (ISO 7185, 6.1), as words.
use Rattle.std.specs.Prelude.{◌≡◌, ℕ, ◌+◌, ◌-◌, ◌*◌, ◌^◌, Bool, false, not, ◌&&◌, ◌||◌, ◌==◌, if◌then◌else◌, nat_le, List, [], ◌∷◌, Option, Some, None, map, codes}
use Rattle.std.proofs.Common.{refl}
use Rattle.std.specs.List.{list_all}
use Rattle.std.specs.Str.{bytes_eq}
use Rattle.pc_syntax.specs.Spellings.{key_words}

abbrev pub is_letter : ℕ → Bool
is_letter b = (nat_le 65 b && nat_le b 90) || (nat_le 97 b && nat_le b 122)

abbrev pub is_digit : ℕ → Bool
is_digit b = nat_le 48 b && nat_le b 57

-- a byte that a name may have after its first letter
abbrev pub is_name_byte : ℕ → Bool
is_name_byte b = is_letter b || is_digit b || b == 95

-- the small letter of a capital one, and else the byte
abbrev pub lower : ℕ → ℕ
lower b = if nat_le 65 b && nat_le b 90 then b + 32 else b

-- names and key words are the same without regard to case
abbrev pub lowered : List ℕ → List ℕ
lowered bytes = map lower bytes

-- whether the word stands in the list
abbrev pub is_among : List (List ℕ) → List ℕ → Bool
is_among [] w = false
is_among (x ∷ xs) w = bytes_eq x w || is_among xs w

unfoldable pub is_key_word : List ℕ → Bool
is_key_word w = is_among key_words (lowered w)

-- a letter, and then letters, digits and `_`
abbrev pub is_name_form : List ℕ → Bool
is_name_form [] = false
is_name_form (b ∷ bs) = is_letter b && list_all is_name_byte bs

-- a name that is no key word
unfoldable pub is_identifier : List ℕ → Bool
is_identifier w = is_name_form w && not (is_key_word w)

-- the word `forward` in any case
unfoldable pub is_forward : List ℕ → Bool
is_forward w = bytes_eq (lowered w) (codes "forward")

-- the number that digits stand for, after a number that stands before them
abbrev pub value_after : ℕ → List ℕ → ℕ
value_after n [] = n
value_after n (b ∷ bs) = value_after (n * 10 + (b - 48)) bs

-- the largest number that a numeral may have
unfoldable pub numeral_limit : ℕ
numeral_limit = 2 ^ 128 - 1

pub numeral_limit-is : numeral_limit ≡ 2 ^ 128 - 1
unfolding numeral_limit
numeral_limit-is = refl

-- the number that digits stand for, where it is not over the limit
abbrev pub numeral_value : List ℕ → Option ℕ
numeral_value bs = if nat_le (value_after 0 bs) numeral_limit then Some (value_after 0 bs) else None

abbrev pub is_digits : List ℕ → Bool
is_digits [] = false
is_digits (b ∷ bs) = is_digit b && list_all is_digit bs

-- a row of digits, not over 2^128 - 1
unfoldable pub is_numeral : List ℕ → Bool
is_numeral w = is_digits w && nat_le (value_after 0 w) numeral_limit

-- a byte that a text may have; an apostrophe is doubled
abbrev pub is_text_byte : ℕ → Bool
is_text_byte b = b == 9 || (nat_le 32 b && nat_le b 126)

-- the rest of a text after its opening apostrophe, or after a byte of it: it ends with the closing one
abbrev pub ends_text : List ℕ → Bool
ends_text [] = false
ends_text (b ∷ []) = b == 39
ends_text (b ∷ c ∷ bs) = if b == 39 then c == 39 && ends_text bs else is_text_byte b && ends_text (c ∷ bs)

-- a text: one byte or more between apostrophes
unfoldable pub is_text : List ℕ → Bool
is_text [] = false
is_text (b ∷ []) = false
is_text (b ∷ c ∷ []) = false
is_text (b ∷ c ∷ d ∷ bs) = b == 39 && ends_text (c ∷ d ∷ bs)

-- the rest of a comment after its opening mark: the first closing mark, `}` or `*)`, ends it
abbrev pub ends_comment : List ℕ → Bool
ends_comment [] = false
ends_comment (b ∷ []) = b == 125
ends_comment (b ∷ c ∷ []) = not (b == 125) && (c == 125 || (b == 42 && c == 41))
ends_comment (b ∷ c ∷ d ∷ bs) = not (b == 125) && not (b == 42 && c == 41) && ends_comment (c ∷ d ∷ bs)

-- a comment with its delimiters
unfoldable pub is_comment : List ℕ → Bool
is_comment [] = false
is_comment (b ∷ []) = false
is_comment (b ∷ c ∷ bs) = (b == 123 && ends_comment (c ∷ bs)) || (b == 40 && c == 42 && ends_comment bs)
