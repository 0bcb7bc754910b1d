-- The word `forward`, in any case, is an identifier.
use Rattle.std.proofs.Common.{◌≡◌, ℕ, true, false, ◌||◌, ◌&&◌, ◌==◌, List, [], ◌∷◌, nat_le, inl, inr, refl}
use Rattle.std.specs.Prelude.{codes}
use Rattle.std.proofs.lemmas.Bool.{and_parts, and_from, or_left, cases_Bool}
use Rattle.std.proofs.lemmas.Slice.Eq.{bytes_eq-Decides}
use Rattle.std.specs.List.{list_all}
use Rattle.pc_syntax.specs.Words.{is_letter, is_digit, is_name_byte, is_name_form, is_key_word, is_forward, is_identifier, lower, lowered}

-- a byte whose small letter is a letter is one
lower_letter : (b c : ℕ) → lower b ≡ c → is_letter c ≡ true → is_letter b ≡ true
lower_letter b c e h = elim (cases_Bool (nat_le 65 b && nat_le b 90)) [
  | inl u ↦ or_left (nat_le 65 b && nat_le b 90) (nat_le 97 b && nat_le b 122) u
  | inr u ↦ let same : b ≡ c = rw u at e in rw same h
]

letters_lowered : (w v : List ℕ) → lowered w ≡ v → list_all is_letter v ≡ true → list_all is_letter w ≡ true
letters_lowered [] v e h = refl
letters_lowered (b ∷ w) [] e h = cc
letters_lowered (b ∷ w) (c ∷ v) e h =
    let first : lower b ≡ c = cc in
    let rest : lowered w ≡ v = cc in
    let both : (is_letter c ≡ true) × (list_all is_letter v ≡ true) = and_parts (is_letter c) (list_all is_letter v) h in
    and_from (is_letter b) (list_all is_letter w) (lower_letter b c first both.0) (letters_lowered w v rest both.1)

letter_name : (b : ℕ) → is_letter b ≡ true → is_name_byte b ≡ true
letter_name b h = or_left (is_letter b || is_digit b) (b == 95) (or_left (is_letter b) (is_digit b) h)

letters_names : (w : List ℕ) → list_all is_letter w ≡ true → list_all is_name_byte w ≡ true
letters_names [] h = refl
letters_names (b ∷ w) h =
    let both : (is_letter b ≡ true) × (list_all is_letter w ≡ true) = and_parts (is_letter b) (list_all is_letter w) h in
    and_from (is_name_byte b) (list_all is_name_byte w) (letter_name b both.0) (letters_names w both.1)

letters_form : (w : List ℕ) (c : ℕ) (v : List ℕ) → lowered w ≡ c ∷ v → list_all is_letter w ≡ true → is_name_form w ≡ true
letters_form [] c v e h = cc
letters_form (b ∷ w) c v e h =
    let both : (is_letter b ≡ true) × (list_all is_letter w ≡ true) = and_parts (is_letter b) (list_all is_letter w) h in
    and_from (is_letter b) (list_all is_name_byte w) both.0 (letters_names w both.1)

no_key : (w : List ℕ) → lowered w ≡ codes "forward" → is_key_word w ≡ false
unfolding is_key_word
no_key w e = rw e refl

pub forward_identifier : (w : List ℕ) → is_forward w ≡ true → is_identifier w ≡ true
unfolding is_forward is_identifier
forward_identifier w h =
    let e : lowered w ≡ codes "forward" = (bytes_eq-Decides (lowered w) (codes "forward")).0 h in
    let letters : list_all is_letter w ≡ true = letters_lowered w (codes "forward") e refl in
    rw (letters_form w 102 (111 ∷ 114 ∷ 119 ∷ 97 ∷ 114 ∷ 100 ∷ []) e letters, no_key w e) refl
