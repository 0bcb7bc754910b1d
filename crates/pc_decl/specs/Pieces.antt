-- What stands between the parts of a list, by how many of them are left.
use Rattle.std.specs.Prelude.{ℕ, zero, suc, List, [], codes}

-- what stands behind a name of a list
abbrev pub comma : ℕ → List ℕ
comma zero = []
comma (suc left) = codes ", "

-- what stands behind the type of a field
abbrev pub behind_field : ℕ → List ℕ
behind_field zero = codes " "
behind_field (suc left) = codes "; "
