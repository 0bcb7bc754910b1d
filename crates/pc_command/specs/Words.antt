-- The words of a line.
use Rattle.std.specs.Prelude.{ℕ, ◌==◌, Bool, true, false, if◌then◌else◌, List, [], ◌∷◌, filter}
use Rattle.std.specs.List.{slice_split, before_first, after_first}

-- Words are parted by spaces; a tab is none.
abbrev pub is_space : ℕ → Bool
is_space byte = byte == 32

-- Something stands in it.
abbrev pub has_bytes : List ℕ → Bool
has_bytes [] = false
has_bytes (b ∷ bs) = true

-- A line's parts between spaces, without the empty ones.
unfoldable pub words_of : List ℕ → List (List ℕ)
words_of line = filter has_bytes (slice_split is_space line)

-- A line without the spaces at its front.
unfoldable pub unindented : List ℕ → List ℕ
unindented [] = []
unindented (b ∷ bs) = if is_space b then unindented bs else b ∷ bs

-- The first word of a line; nothing where the line has none.
unfoldable pub first_word : List ℕ → List ℕ
first_word line = before_first is_space (unindented line)

-- What stands behind the first word and the one space after it; nothing where the line ends without that space.
unfoldable pub behind_word : List ℕ → List ℕ
behind_word line = after_first is_space (unindented line)
