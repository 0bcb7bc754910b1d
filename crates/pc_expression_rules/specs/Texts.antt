-- Texts of one character, which are chars, and the others, which are kept in a table.
use Rattle.std.specs.Prelude.{ℕ, List, [], ◌∷◌, Option, Some, None}

-- the character of a text that has one
abbrev pub only : List ℕ → Option ℕ
only (c ∷ []) = Some c
only _ = None

-- what a text with these characters adds to the table
abbrev pub kept_text : List ℕ → List (List ℕ)
kept_text (c ∷ []) = []
kept_text cs = cs ∷ []
