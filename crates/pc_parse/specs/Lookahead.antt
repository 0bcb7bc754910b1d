-- The next symbol.
use Rattle.std.specs.Prelude.{ℕ, ◌+◌, ◌==◌, Bool, false, List, [], ◌∷◌, Option, Some, None}
use Rattle.pc_syntax.specs.declared.sort.Sort.{Sort}
use Rattle.pc_syntax.specs.declared.sort.Sort.TheVariants as sort
use Rattle.pc_syntax.specs.declared.lexeme.Lexeme.{Lexeme}
use Rattle.pc_syntax.specs.declared.lexeme.Lexeme.TheVariants as lexeme
use Rattle.pc_syntax.specs.Symbols.{Sym}

-- a number for each sort and each lexeme, by which two are compared
abbrev pub sort_number : Sort → ℕ
sort_number sort.Program = 0
sort_number sort.Block = 1
sort_number sort.ConstDef = 2
sort_number sort.TypeDef = 3
sort_number sort.VarDef = 4
sort_number sort.Routine = 5
sort_number sort.Parameter = 6
sort_number sort.Denoter = 7
sort_number sort.Field = 8
sort_number sort.Constant = 9
sort_number sort.Statement = 10
sort_number sort.Arm = 11
sort_number sort.Expression = 12
sort_number sort.Name = 13

abbrev pub lexeme_number : Lexeme → ℕ
lexeme_number lexeme.KeyAnd = 0
lexeme_number lexeme.KeyArray = 1
lexeme_number lexeme.KeyBegin = 2
lexeme_number lexeme.KeyCase = 3
lexeme_number lexeme.KeyConst = 4
lexeme_number lexeme.KeyDiv = 5
lexeme_number lexeme.KeyDo = 6
lexeme_number lexeme.KeyDownto = 7
lexeme_number lexeme.KeyElse = 8
lexeme_number lexeme.KeyEnd = 9
lexeme_number lexeme.KeyFile = 10
lexeme_number lexeme.KeyFor = 11
lexeme_number lexeme.KeyFunction = 12
lexeme_number lexeme.KeyGoto = 13
lexeme_number lexeme.KeyIf = 14
lexeme_number lexeme.KeyIn = 15
lexeme_number lexeme.KeyLabel = 16
lexeme_number lexeme.KeyMod = 17
lexeme_number lexeme.KeyNil = 18
lexeme_number lexeme.KeyNot = 19
lexeme_number lexeme.KeyOf = 20
lexeme_number lexeme.KeyOr = 21
lexeme_number lexeme.KeyPacked = 22
lexeme_number lexeme.KeyProcedure = 23
lexeme_number lexeme.KeyProgram = 24
lexeme_number lexeme.KeyRecord = 25
lexeme_number lexeme.KeyRepeat = 26
lexeme_number lexeme.KeySet = 27
lexeme_number lexeme.KeyThen = 28
lexeme_number lexeme.KeyTo = 29
lexeme_number lexeme.KeyType = 30
lexeme_number lexeme.KeyUntil = 31
lexeme_number lexeme.KeyVar = 32
lexeme_number lexeme.KeyWhile = 33
lexeme_number lexeme.KeyWith = 34
lexeme_number lexeme.Plus = 35
lexeme_number lexeme.Minus = 36
lexeme_number lexeme.Star = 37
lexeme_number lexeme.Slash = 38
lexeme_number lexeme.Equal = 39
lexeme_number lexeme.Less = 40
lexeme_number lexeme.Greater = 41
lexeme_number lexeme.OpenBracket = 42
lexeme_number lexeme.CloseBracket = 43
lexeme_number lexeme.Dot = 44
lexeme_number lexeme.Comma = 45
lexeme_number lexeme.Colon = 46
lexeme_number lexeme.Semicolon = 47
lexeme_number lexeme.Caret = 48
lexeme_number lexeme.OpenParen = 49
lexeme_number lexeme.CloseParen = 50
lexeme_number lexeme.Unequal = 51
lexeme_number lexeme.AtMost = 52
lexeme_number lexeme.AtLeast = 53
lexeme_number lexeme.Becomes = 54
lexeme_number lexeme.DotDot = 55
lexeme_number lexeme.Identifier = 56
lexeme_number lexeme.Numeral = 57
lexeme_number lexeme.Text = 58
lexeme_number (lexeme.Hole s) = 59 + sort_number s

abbrev pub same : Lexeme → Lexeme → Bool
same x y = lexeme_number x == lexeme_number y

-- whether the lexeme comes next
abbrev pub same_at : Lexeme → Option Lexeme → Bool
same_at y None = false
same_at y (Some x) = same y x

-- the next symbol of a list, its spelling, and the symbols after it
abbrev pub look : List Sym → Option Lexeme
look [] = None
look (x ∷ xs) = Some x.lexeme

abbrev pub word_at : List Sym → List ℕ
word_at [] = []
word_at (x ∷ xs) = x.spelling

abbrev pub after : List Sym → List Sym
after [] = []
after (x ∷ xs) = xs
