-- When names are in small letters.
use Rattle.std.specs.Prelude.{◌≡◌, ℕ, List, [], ◌∷◌}
use Rattle.pc_syntax.specs.declared.kind.Kind.{Kind}
use Rattle.pc_syntax.specs.Words.{lowered}
use Rattle.pc_scope.specs.Declarations.{Declared}

-- a name is in small letters
abbrev pub IsSmall : List ℕ → Type 0
IsSmall n = lowered n ≡ n

-- so are the names of declarations, each with the kind of its node
abbrev pub AreSmall : List (Declared × Kind) → Type 0
AreSmall [] = Unit {0}
AreSmall (d ∷ ds) = IsSmall d.0.name × AreSmall ds
