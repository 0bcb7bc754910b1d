-- The required names (ISO 7185, 6.2.2.10), in small letters.
use Rattle.std.specs.Prelude.{ℕ, Bool, ◌||◌, List, [], ◌∷◌, codes}
use Rattle.pc_syntax.specs.Words.{is_among}

-- the required types (6.4.2.2)
abbrev pub is_required_type : List ℕ → Bool
is_required_type = is_among (codes "integer" ∷ codes "boolean" ∷ codes "char" ∷ [])

-- the required constants (6.4.2.2)
abbrev pub is_required_constant : List ℕ → Bool
is_required_constant = is_among (codes "maxint" ∷ codes "false" ∷ codes "true" ∷ [])

-- the required functions (6.6.6)
abbrev pub is_required_function : List ℕ → Bool
is_required_function =
    is_among (codes "abs" ∷ codes "sqr" ∷ codes "ord" ∷ codes "chr" ∷ codes "succ" ∷ codes "pred" ∷ codes "odd" ∷ codes "eof" ∷ codes "eoln" ∷ [])

-- the required procedures (6.6.5)
abbrev pub is_required_procedure : List ℕ → Bool
is_required_procedure =
    is_among (codes "new" ∷ codes "dispose" ∷ codes "read" ∷ codes "readln" ∷ codes "write" ∷ codes "writeln" ∷ [])

-- the required text files (6.10)
abbrev pub is_required_file : List ℕ → Bool
is_required_file = is_among (codes "input" ∷ codes "output" ∷ [])

-- whether the name is one of these
abbrev pub is_required : List ℕ → Bool
is_required n = is_required_type n || is_required_constant n || is_required_function n || is_required_procedure n || is_required_file n
