-- The names of the parameters that a later declaration has from its forward heading.
use Rattle.std.specs.Prelude.{ℕ, List, [], map, get_or}
use Rattle.pc_syntax.specs.Words.{lowered}
use Rattle.pc_places.specs.declared.parameter.Parameter.{Parameter}

-- the names of parameters, each by its number, in small letters
abbrev pub small_names : List (List ℕ) → List Parameter → List (List ℕ)
small_names texts ps = map (λ (p : Parameter). lowered (get_or texts p.name.0 [])) ps
