-- How key words and marks are written.
use Rattle.std.specs.Prelude.{ℕ, List, [], ◌∷◌, codes}
use Rattle.pc_syntax.specs.declared.sort.Sort.{Sort}
use Rattle.pc_syntax.specs.declared.sort.Sort.TheVariants as sort
use Rattle.pc_syntax.specs.declared.lexeme.Lexeme.{Lexeme}
use Rattle.pc_syntax.specs.declared.lexeme.Lexeme.TheVariants as lexeme

-- the name of a sort, as it stands after the `?` of a hole
abbrev pub sort_name : Sort → List ℕ
sort_name sort.Program = codes "program"
sort_name sort.Block = codes "block"
sort_name sort.ConstDef = codes "constdef"
sort_name sort.TypeDef = codes "typedef"
sort_name sort.VarDef = codes "vardef"
sort_name sort.Routine = codes "routine"
sort_name sort.Parameter = codes "parameter"
sort_name sort.Denoter = codes "type"
sort_name sort.Field = codes "field"
sort_name sort.Constant = codes "constant"
sort_name sort.Statement = codes "statement"
sort_name sort.Arm = codes "arm"
sort_name sort.Expression = codes "expression"
sort_name sort.Name = codes "name"

-- the text of a key word, mark or hole as it is printed; a name, numeral or text has its own spelling
abbrev pub spelling_of : Lexeme → List ℕ
spelling_of lexeme.KeyAnd = codes "and"
spelling_of lexeme.KeyArray = codes "array"
spelling_of lexeme.KeyBegin = codes "begin"
spelling_of lexeme.KeyCase = codes "case"
spelling_of lexeme.KeyConst = codes "const"
spelling_of lexeme.KeyDiv = codes "div"
spelling_of lexeme.KeyDo = codes "do"
spelling_of lexeme.KeyDownto = codes "downto"
spelling_of lexeme.KeyElse = codes "else"
spelling_of lexeme.KeyEnd = codes "end"
spelling_of lexeme.KeyFile = codes "file"
spelling_of lexeme.KeyFor = codes "for"
spelling_of lexeme.KeyFunction = codes "function"
spelling_of lexeme.KeyGoto = codes "goto"
spelling_of lexeme.KeyIf = codes "if"
spelling_of lexeme.KeyIn = codes "in"
spelling_of lexeme.KeyLabel = codes "label"
spelling_of lexeme.KeyMod = codes "mod"
spelling_of lexeme.KeyNil = codes "nil"
spelling_of lexeme.KeyNot = codes "not"
spelling_of lexeme.KeyOf = codes "of"
spelling_of lexeme.KeyOr = codes "or"
spelling_of lexeme.KeyPacked = codes "packed"
spelling_of lexeme.KeyProcedure = codes "procedure"
spelling_of lexeme.KeyProgram = codes "program"
spelling_of lexeme.KeyRecord = codes "record"
spelling_of lexeme.KeyRepeat = codes "repeat"
spelling_of lexeme.KeySet = codes "set"
spelling_of lexeme.KeyThen = codes "then"
spelling_of lexeme.KeyTo = codes "to"
spelling_of lexeme.KeyType = codes "type"
spelling_of lexeme.KeyUntil = codes "until"
spelling_of lexeme.KeyVar = codes "var"
spelling_of lexeme.KeyWhile = codes "while"
spelling_of lexeme.KeyWith = codes "with"
spelling_of lexeme.Plus = codes "+"
spelling_of lexeme.Minus = codes "-"
spelling_of lexeme.Star = codes "*"
spelling_of lexeme.Slash = codes "/"
spelling_of lexeme.Equal = codes "="
spelling_of lexeme.Less = codes "<"
spelling_of lexeme.Greater = codes ">"
spelling_of lexeme.OpenBracket = codes "["
spelling_of lexeme.CloseBracket = codes "]"
spelling_of lexeme.Dot = codes "."
spelling_of lexeme.Comma = codes ","
spelling_of lexeme.Colon = codes ":"
spelling_of lexeme.Semicolon = codes ";"
spelling_of lexeme.Caret = codes "^"
spelling_of lexeme.OpenParen = codes "("
spelling_of lexeme.CloseParen = codes ")"
spelling_of lexeme.Unequal = codes "<>"
spelling_of lexeme.AtMost = codes "<="
spelling_of lexeme.AtLeast = codes ">="
spelling_of lexeme.Becomes = codes ":="
spelling_of lexeme.DotDot = codes ".."
spelling_of (lexeme.Hole s) = 63 ∷ sort_name s
spelling_of _ = []

-- the key words, in the order of the alphabet
abbrev pub key_words : List (List ℕ)
key_words = codes "and" ∷ codes "array" ∷ codes "begin" ∷ codes "case" ∷ codes "const" ∷ codes "div" ∷ codes "do" ∷ codes "downto" ∷ codes "else" ∷ codes "end" ∷ codes "file" ∷ codes "for" ∷ codes "function" ∷ codes "goto" ∷ codes "if" ∷ codes "in" ∷ codes "label" ∷ codes "mod" ∷ codes "nil" ∷ codes "not" ∷ codes "of" ∷ codes "or" ∷ codes "packed" ∷ codes "procedure" ∷ codes "program" ∷ codes "record" ∷ codes "repeat" ∷ codes "set" ∷ codes "then" ∷ codes "to" ∷ codes "type" ∷ codes "until" ∷ codes "var" ∷ codes "while" ∷ codes "with" ∷ []
