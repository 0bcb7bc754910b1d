-- Rows of bytes with one property.
use Rattle.std.specs.Prelude.{ℕ, suc, Bool, List, [], ◌∷◌, if◌then◌else◌}

-- the length of the longest beginning whose bytes all have the property
abbrev pub run : (ℕ → Bool) → List ℕ → ℕ
run p [] = 0
run p (b ∷ bs) = if p b then suc (run p bs) else 0
