-- Definitions of types inside others (ISO 7185, 6.4).
use Rattle.std.specs.Prelude.{ℕ, [], ◌∷◌, ◌++◌}
use Rattle.pc_types.specs.Shapes.{Definition}

-- the definition at the kid with number i, from 1, of a denoter that has this one
abbrev pub inside_of : Definition → ℕ → Definition
inside_of d i = record d { inside = d.inside ++ i ∷ [] }
