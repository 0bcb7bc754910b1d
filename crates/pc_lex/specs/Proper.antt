-- What a parser may rely on: names, numerals, texts and comments are spelled as such.
use Rattle.std.specs.Prelude.{◌≡◌, ℕ, true, List, [], ◌∷◌, slice_range, take}
use Rattle.pc_syntax.specs.declared.lexeme.Lexeme.{Lexeme}
use Rattle.pc_syntax.specs.declared.lexeme.Lexeme.TheVariants as lexeme
use Rattle.pc_syntax.specs.Symbols.{Sym}
use Rattle.pc_syntax.specs.Words.{is_identifier, is_numeral, is_text, is_comment}
use Rattle.pc_lex.specs.declared.symbol.Span.{Span}
use Rattle.pc_lex.specs.declared.symbol.SymbolKind.{SymbolKind}
use Rattle.pc_lex.specs.declared.symbol.SymbolKind.TheVariants.{Key, Mark, Name, Numeral, Text, Hole}
use Rattle.pc_lex.specs.declared.front.Front.{Front}
use Rattle.pc_lex.specs.declared.front.Front.TheVariants.{End, Blank, Comment, Symbol, Fault}
use Rattle.pc_lex.specs.Spells.{PlainSymbol}

-- the spelling is a name, a numeral or a text where the symbol is one, and else empty
abbrev pub IsProper : Lexeme → List ℕ → Type 0
IsProper lexeme.Identifier w = is_identifier w ≡ true
IsProper lexeme.Numeral w = is_numeral w ≡ true
IsProper lexeme.Text w = is_text w ≡ true
IsProper _ w = w ≡ []

-- each of these symbols is proper
abbrev pub Proper : List Sym → Type 0
Proper [] = Unit {0}
Proper (x ∷ xs) = IsProper x.lexeme x.spelling × Proper xs

-- a name, a numeral or a text has the form of one
abbrev pub IsWord : SymbolKind → List ℕ → Type 0
IsWord Name w = is_identifier w ≡ true
IsWord Numeral w = is_numeral w ≡ true
IsWord Text w = is_text w ≡ true
IsWord (Key row) w = Unit {0}
IsWord (Mark row) w = Unit {0}
IsWord (Hole s) w = Unit {0}

-- what stands at the beginning of a text has the form that its kind says
abbrev pub IsSpelled : Front → List ℕ → Type 0
IsSpelled (Comment n) bs = is_comment (take n bs) ≡ true
IsSpelled (Symbol kind n) bs = IsWord kind (take n bs)
IsSpelled End bs = Unit {0}
IsSpelled Blank bs = Unit {0}
IsSpelled (Fault e) bs = Unit {0}

-- each of these spans is that of a comment
abbrev pub AreComments : List ℕ → List Span → Type 0
AreComments text [] = Unit {0}
AreComments text (n ∷ ns) = (is_comment (slice_range text n.from n.to) ≡ true) × AreComments text ns

-- the notes of each symbol are comments
abbrev pub AreNoted : List ℕ → List PlainSymbol → Type 0
AreNoted text [] = Unit {0}
AreNoted text (s ∷ ss) = AreComments text s.notes × AreNoted text ss
