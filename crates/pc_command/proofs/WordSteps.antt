-- The first word of a line among its words.
use Rattle.std.proofs.Common.{◌≡◌, ℕ, ◌<◌, ◌≤◌, ◌+◌, List, [], ◌∷◌, Some, None, length, true, false, nat_lt, Bool, not, if◌then◌else◌, refl, sym, ◌∙◌, arith}
use Rattle.std.specs.List.{before_first, after_first, position, position_or_len}
use Rattle.std.proofs.lemmas.Bool.{ltb-true, ltb-false}
use Rattle.std.proofs.lemmas.Bool.Decides.{nat_tests}
use Rattle.std.proofs.lemmas.List.{take_all, drop_all}
use Rattle.std.proofs.lemmas.List.Folds.{length-prefix_len}
use Rattle.std.proofs.lemmas.List.Sums.{fails_before_first}
use Rattle.std.proofs.lemmas.List.Splits.{slice_split_first, slice_split_none}
use Rattle.pc_command.specs.Words.{is_space, has_bytes, words_of, unindented, first_word, behind_word}

-- where a search for a space stops

found : (n len at : ℕ) (t : Bool) → nat_lt n len ≡ t → (if t then Some n else None) ≡ Some at → (at < len) × (n ≡ at)
found n len at true is some = let same : n ≡ at = cc in (rw (← same) (ltb-true _ _ is), same)
found n len at false is some = cc

pub space_found : (line : List ℕ) (at : ℕ) → position is_space line ≡ Some at → (at < length line) × (position_or_len is_space line ≡ at)
space_found line at some = found (position_or_len is_space line) (length line) at _ refl some

not_found : (n len : ℕ) (t : Bool) → nat_lt n len ≡ t → (if t then Some n else None) ≡ None → len ≤ n
not_found n len true is none = cc
not_found n len false is none = ltb-false _ _ is

pub no_space : (line : List ℕ) → position is_space line ≡ None → length line ≤ position_or_len is_space line
no_space line none = not_found (position_or_len is_space line) (length line) _ refl none

-- spaces at the front change no word

words_of-space : (bs : List ℕ) → words_of (32 ∷ bs) ≡ words_of bs
unfolding words_of
words_of-space bs = refl

more_indented : (bs : List ℕ) (x : ℕ) (t : Bool) → is_space x ≡ t → words_of (unindented bs) ≡ words_of bs → words_of (unindented (x ∷ bs)) ≡ words_of (x ∷ bs)
unfolding unindented
more_indented bs x true is same = let space : x ≡ 32 = grind (arith, nat_tests) in rw (is, space, words_of-space bs) same
more_indented bs x false is same = rw is refl

words_of-unindented : (line : List ℕ) → words_of (unindented line) ≡ words_of line
unfolding unindented
words_of-unindented [] = refl
words_of-unindented (x ∷ bs) = more_indented bs x _ refl (words_of-unindented bs)

-- no space stands at the front then

head_after : (y x : ℕ) (bs more : List ℕ) (t : Bool) → is_space y ≡ t → (unindented bs ≡ x ∷ more → is_space x ≡ false) →
    (if t then unindented bs else y ∷ bs) ≡ x ∷ more → is_space x ≡ false
head_after y x bs more true is deeper same = deeper same
head_after y x bs more false is deeper same = let one : y ≡ x = cc in rw (← one) is

unindented-head : (line : List ℕ) (x : ℕ) (more : List ℕ) → unindented line ≡ x ∷ more → is_space x ≡ false
unfolding unindented
unindented-head [] x more same = cc
unindented-head (y ∷ bs) x more same = head_after y x bs more _ refl (unindented-head bs x more) same

-- the words of a line that begins with none

none_cut : (rest : List ℕ) → ((x : ℕ) (more : List ℕ) → rest ≡ x ∷ more → is_space x ≡ false) → length (before_first is_space rest) ≡ 0 → words_of rest ≡ []
unfolding words_of
none_cut [] other none = refl
none_cut (x ∷ bs) other none =
    let first : position_or_len is_space (x ∷ bs) ≡ 1 + position_or_len is_space bs = rw (other x bs refl) refl in
    absurd (omega (arith, first, length-prefix_len (λ b. not (is_space b)) (x ∷ bs), none))

pub words_of-none : (line : List ℕ) → length (first_word line) ≡ 0 → words_of line ≡ []
unfolding first_word
words_of-none line none = sym (words_of-unindented line) ∙ none_cut (unindented line) (unindented-head line) none

-- the words of a line that begins with one

some_bytes : (bs : List ℕ) → 0 < length bs → has_bytes bs ≡ true
some_bytes [] some = absurd (omega arith)
some_bytes (b ∷ bs) some = refl

cut : (rest : List ℕ) (t : Bool) → nat_lt (position_or_len is_space rest) (length rest) ≡ t → has_bytes (before_first is_space rest) ≡ true →
    words_of rest ≡ before_first is_space rest ∷ words_of (after_first is_space rest)
unfolding words_of
cut rest true is some = rw (slice_split_first is_space rest 0 (ltb-true _ _ is), some) refl
cut rest false is some =
    let short : length rest ≤ position_or_len is_space rest = ltb-false _ _ is in
    let whole = take_all (position_or_len is_space rest) rest short in
    let all = rw whole at some in
    rw (slice_split_none is_space rest (λ k d less. fails_before_first is_space rest k d (omega (arith, short, less))), whole, drop_all (position_or_len is_space rest + 1) rest (omega (arith, short)), all) refl

pub words_of-next : (line : List ℕ) → 0 < length (first_word line) → words_of line ≡ first_word line ∷ words_of (behind_word line)
unfolding first_word behind_word
words_of-next line some = sym (words_of-unindented line) ∙ cut (unindented line) _ refl (some_bytes _ some)
