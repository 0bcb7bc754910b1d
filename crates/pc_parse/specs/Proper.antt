-- Symbols as a lexer gives them.
use Rattle.std.specs.Prelude.{◌≡◌, ℕ, Bool, true, false, List, [], ◌∷◌}
use Rattle.pc_syntax.specs.declared.lexeme.Lexeme.{Lexeme}
use Rattle.pc_syntax.specs.declared.lexeme.Lexeme.TheVariants as lexeme
use Rattle.pc_syntax.specs.Symbols.{Sym}
use Rattle.pc_syntax.specs.Words.{is_identifier, is_numeral, is_text}

abbrev pub is_empty : List ℕ → Bool
is_empty [] = true
is_empty (b ∷ bs) = false

-- whether the spelling is one that the lexeme can have; only names, numerals and texts have one
abbrev pub proper : Lexeme → List ℕ → Bool
proper lexeme.Identifier w = is_identifier w
proper lexeme.Numeral w = is_numeral w
proper lexeme.Text w = is_text w
proper _ w = is_empty w

abbrev pub Proper : List Sym → Type 0
Proper [] = Unit {0}
Proper (y ∷ ys) = (proper y.lexeme y.spelling ≡ true) × Proper ys
