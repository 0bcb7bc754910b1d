-- How large the text of a view may be.
use Rattle.std.specs.Prelude.{◌≡◌, ◌⊎◌, ℕ, ◌<◌, nat_le, if◌then◌else◌, codes, List, length}
use Rattle.std.proofs.Common.{refl}

-- the most bytes of the text of a view
unfoldable pub text_limit : ℕ
text_limit = 10000000

pub text_limit-is : text_limit ≡ 10000000
unfolding text_limit
text_limit-is = refl

-- what is shown of a text: one line in its place where it is over the limit
abbrev pub limited : List ℕ → List ℕ
limited text = if nat_le (length text) text_limit then text else codes "view too large\n"

-- the text is the whole one, or both are over the limit
abbrev pub Agrees : List ℕ → List ℕ → Type 0
Agrees text whole = (text ≡ whole) ⊎ ((text_limit < length text) × (text_limit < length whole))
