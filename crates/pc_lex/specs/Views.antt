-- What the code's symbols mean, and what a parser sees of them.
use Rattle.std.specs.Prelude.{ℕ, ◌-◌, List, [], ◌∷◌, map}
use Rattle.std.proofs.Common.{get_or}
use Rattle.pc_syntax.specs.declared.lexeme.Lexeme.{Lexeme}
use Rattle.pc_syntax.specs.declared.lexeme.Lexeme.TheVariants as lexeme
use Rattle.pc_syntax.specs.Symbols.{Sym}
use Rattle.pc_lex.specs.declared.symbol.SymbolKind.{SymbolKind}
use Rattle.pc_lex.specs.declared.symbol.SymbolKind.TheVariants.{Key, Mark, Name, Numeral, Text, Hole}
use Rattle.pc_lex.specs.declared.symbol.Symbol.{Symbol}
use Rattle.pc_lex.specs.declared.symbol.Lexed.{Lexed}
use Rattle.pc_lex.specs.Spells.{PlainSymbol, Spells}

-- the value that a symbol of the code stands for
abbrev pub plain_symbol : Symbol → PlainSymbol
plain_symbol s = record { kind = s.kind; spelling = s.spelling.now; span = s.span; notes = s.notes.items }

-- the values of several
abbrev pub plain_symbols : List Symbol → List PlainSymbol
plain_symbols ss = map plain_symbol ss

-- its text spells its symbols and its tail: it is what `lex` answers for its text
abbrev pub IsLexed : Lexed → Type 0
IsLexed lexed = Spells lexed.text.now (plain_symbols lexed.symbols.items) lexed.tail.items

-- the key words, row by row
abbrev pub key_lexemes : List Lexeme
key_lexemes = lexeme.KeyAnd ∷ lexeme.KeyArray ∷ lexeme.KeyBegin ∷ lexeme.KeyCase ∷ lexeme.KeyConst ∷ lexeme.KeyDiv ∷ lexeme.KeyDo ∷ lexeme.KeyDownto ∷ lexeme.KeyElse ∷ lexeme.KeyEnd ∷ lexeme.KeyFile ∷ lexeme.KeyFor ∷ lexeme.KeyFunction ∷ lexeme.KeyGoto ∷ lexeme.KeyIf ∷ lexeme.KeyIn ∷ lexeme.KeyLabel ∷ lexeme.KeyMod ∷ lexeme.KeyNil ∷ lexeme.KeyNot ∷ lexeme.KeyOf ∷ lexeme.KeyOr ∷ lexeme.KeyPacked ∷ lexeme.KeyProcedure ∷ lexeme.KeyProgram ∷ lexeme.KeyRecord ∷ lexeme.KeyRepeat ∷ lexeme.KeySet ∷ lexeme.KeyThen ∷ lexeme.KeyTo ∷ lexeme.KeyType ∷ lexeme.KeyUntil ∷ lexeme.KeyVar ∷ lexeme.KeyWhile ∷ lexeme.KeyWith ∷ []

-- the marks, row by row
abbrev pub mark_lexemes : List Lexeme
mark_lexemes = lexeme.Plus ∷ lexeme.Minus ∷ lexeme.Star ∷ lexeme.Slash ∷ lexeme.Equal ∷ lexeme.Less ∷ lexeme.Greater ∷ lexeme.OpenBracket ∷ lexeme.CloseBracket ∷ lexeme.Dot ∷ lexeme.Comma ∷ lexeme.Colon ∷ lexeme.Semicolon ∷ lexeme.Caret ∷ lexeme.OpenParen ∷ lexeme.CloseParen ∷ lexeme.Unequal ∷ lexeme.AtMost ∷ lexeme.AtLeast ∷ lexeme.Becomes ∷ lexeme.DotDot ∷ []

-- the key word of a row, counted from 1; a row outside the table counts as the first one
abbrev pub key_lexeme : ℕ → Lexeme
key_lexeme row = get_or key_lexemes (row - 1) lexeme.KeyAnd

-- the mark of a row, in the same way
abbrev pub mark_lexeme : ℕ → Lexeme
mark_lexeme row = get_or mark_lexemes (row - 1) lexeme.Plus

-- what a symbol is to a parser
unfoldable pub lexeme_of : SymbolKind → Lexeme
lexeme_of (Key row) = key_lexeme row
lexeme_of (Mark row) = mark_lexeme row
lexeme_of Name = lexeme.Identifier
lexeme_of Numeral = lexeme.Numeral
lexeme_of Text = lexeme.Text
lexeme_of (Hole s) = lexeme.Hole s

-- only names, numerals and texts keep how they are written
unfoldable pub kept : SymbolKind → List ℕ → List ℕ
kept (Key row) w = []
kept (Mark row) w = []
kept Name w = w
kept Numeral w = w
kept Text w = w
kept (Hole s) w = []

-- a symbol as a parser sees it
abbrev pub sym_of : PlainSymbol → Sym
sym_of s = record { lexeme = lexeme_of s.kind; spelling = kept s.kind s.spelling }

-- several symbols as a parser sees them
abbrev pub syms : List PlainSymbol → List Sym
syms ss = map sym_of ss

-- the symbols of a text that was lexed, as a parser sees them
abbrev pub syms_of_lexed : Lexed → List Sym
syms_of_lexed lexed = syms (plain_symbols lexed.symbols.items)
