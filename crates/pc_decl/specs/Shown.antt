-- How places and keys are shown.
use Rattle.std.specs.Prelude.{ℕ, List, [], ◌∷◌, ◌++◌, codes}
use Rattle.std.specs.Fmt.{decimal}
use Rattle.std.specs.List.{flat_map}
use Rattle.pc_types.specs.Shapes.{Owner, Keyed, Placed}

-- a step of a path, behind a slash
abbrev pub step_text : ℕ → List ℕ
step_text i = codes "/" ++ decimal i

-- the path of a place: its steps; that of the root is a slash
unfoldable pub path_text : List ℕ → List ℕ
path_text [] = codes "/"
path_text (i ∷ is) = flat_map step_text (i ∷ is)

-- a name of a key, behind a point
abbrev pub part_text : List ℕ → List ℕ
part_text n = codes "." ++ n

-- a key: its names; that of the program is a point
unfoldable pub key_text : List (List ℕ) → List ℕ
key_text [] = codes "."
key_text (n ∷ ns) = flat_map part_text (n ∷ ns)

-- a routine by its key; one that has none, by its place
abbrev pub owner_text : Owner → List ℕ
owner_text (Keyed k) = key_text k
owner_text (Placed q) = path_text q
