-- Paths of nodes, numbers of elements and keys of routines, as words.
use Rattle.std.specs.Prelude.{◌≡◌, ◌⊎◌, ℕ, Bool, ◌&&◌, ◌==◌, if◌then◌else◌, nat_le, List, [], ◌∷◌, length, Option, Some, None, Result, Err}
use Rattle.std.specs.List.{slice_split, list_all}
use Rattle.std.specs.Option.{option_and_then, ok_or}
use Rattle.std.specs.Str.{bytes_eq}
use Rattle.pc_syntax.specs.Words.{is_digit, is_name_form, value_after, lowered}
use Rattle.pc_syntax.specs.declared.error.ReadError.{ReadError}
use Rattle.pc_syntax.specs.declared.error.ReadError.TheVariants.{BadForm, NoMemory}

-- the most steps of a path, and names of a key
abbrev pub part_limit : ℕ
part_limit = 256

-- these parts, where they are within the limit
abbrev pub within_limit : List (List ℕ) → Option (List (List ℕ))
within_limit parts = if nat_le (length parts) part_limit then Some parts else None

-- the parts that stand behind the mark at the front, with one mark between two; a mark alone has none
unfoldable pub parts_behind : ℕ → List ℕ → Option (List (List ℕ))
parts_behind mark [] = None
parts_behind mark (b ∷ []) = if b == mark then Some [] else None
parts_behind mark (b ∷ c ∷ bs) = if b == mark then within_limit (slice_split (λ d. d == mark) (c ∷ bs)) else None

-- the number of a step: a numeral from 1 to 4294967295 without a leading zero
unfoldable pub step_of : List ℕ → Option ℕ
step_of [] = None
step_of (b ∷ bs) =
    if nat_le 49 b && nat_le b 57 && list_all is_digit bs && nat_le (value_after 0 (b ∷ bs)) 4294967295 then Some (value_after 0 (b ∷ bs)) else None

-- the number of an element: a numeral from 1 to 4294967295, which may have leading zeros
unfoldable pub element_number : List ℕ → Option ℕ
element_number word =
    if list_all is_digit word && nat_le 1 (value_after 0 word) && nat_le (value_after 0 word) 4294967295 then Some (value_after 0 word) else None

-- a step and then more steps, where all are there
abbrev pub step_and : Option ℕ → Option (List ℕ) → Option (List ℕ)
step_and (Some step) (Some steps) = Some (step ∷ steps)
step_and (Some step) None = None
step_and None steps = None

-- the numbers of all the steps
abbrev pub steps_of : List (List ℕ) → Option (List ℕ)
steps_of [] = Some []
steps_of (part ∷ parts) = step_and (step_of part) (steps_of parts)

-- the steps of a path: `/` alone is the root, else `/` stands before each number, within the limit
unfoldable pub path_of : List ℕ → Option (List ℕ)
path_of word = option_and_then steps_of (parts_behind 47 word)

-- a word in the form of a name, a key word too, in small letters
abbrev pub is_small_name : List ℕ → Bool
is_small_name word = is_name_form word && bytes_eq word (lowered word)

-- the names of a key: `.` alone is the program, else `.` stands before each name, within the limit
unfoldable pub key_of : List ℕ → Option (List (List ℕ))
key_of word = option_and_then (λ names. if list_all is_small_name names then Some names else None) (parts_behind 46 word)

-- The answer is this value, or `BadForm` exactly where there is none; but the memory may not suffice.
abbrev pub ReadsAs : {T : Type 0} → Option T → Result T ReadError → Type 0
ReadsAs wanted result = (result ≡ Err NoMemory) ⊎ (result ≡ ok_or wanted BadForm)
