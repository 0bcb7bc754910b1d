-- What a sink has handed on, of the bytes that were written to it.
use Rattle.std.specs.Prelude.{◌≡◌, ℕ, List, Option}

-- All that was written is handed on.
abbrev pub HandsOn : Option (List ℕ) → Option (List ℕ) → Type 0
HandsOn written handed_on = handed_on ≡ written

-- What is handed on stays as it was.
abbrev pub HandsOnNothing : Option (List ℕ) → Option (List ℕ) → Type 0
HandsOnNothing old new = new ≡ old
