-- Notes before the first symbol of several.
use Rattle.std.proofs.Common.{◌≡◌, Bool, true, false, List, [], ◌∷◌, ◌++◌, refl}
use Rattle.pc_layout.specs.Noted.{Notes}
use Rattle.pc_pretty.specs.Notes.{headed}

-- whether there is a symbol
abbrev pub has_symbols : List Notes → Bool
has_symbols [] = false
has_symbols (n ∷ ns) = true

pub headed-append : (ns : Notes) (ms ls : List Notes) → has_symbols ms ≡ true → headed ns (ms ++ ls) ≡ headed ns ms ++ ls
headed-append ns [] ls h = cc
headed-append ns (m ∷ ms) ls h = refl

pub headed-none : (ms : List Notes) → headed [] ms ≡ ms
headed-none [] = refl
headed-none (m ∷ ms) = refl
