-- The grammar: what each kind of node is made of, in order.
use Rattle.std.specs.Prelude.{ℕ, zero, suc, Bool, true, false, if◌then◌else◌, List, [], ◌∷◌, ◌++◌, Option, Some, None}
use Rattle.std.specs.Str.{bytes_eq}
use Rattle.pc_syntax.specs.declared.kind.Kind.{Kind}
use Rattle.pc_syntax.specs.declared.kind.Kind.TheVariants.{Program, Block, Forward, Constdef, Typedef, Vardef, Field, Valparam, Varparam, Procedure, Function, Funbody, Tname, Enum, Subrange, Array, Record, Record0, Setof, Packed, Pointer, Cnumber, Cstring, Cname, Csign, Empty, Assign, Proc, Compound, If, Ifelse, Case, Arm, Repeat, While, For, With, Ref, Index, Select, Deref, Number, Text, Nil, Call, Parens, Not, Setcon, Mul, Add, Sign, Rel, Width, Span, Name, Heads, Args, Params, Names, Labels, Indexes, Exprs, Accesses, Members, Consts, Types, Vars, Routines, Fields, Stmts, Arms, Hole}
use Rattle.pc_syntax.specs.declared.lexeme.Lexeme.{Lexeme}
use Rattle.pc_syntax.specs.declared.lexeme.Lexeme.TheVariants as lexeme
use Rattle.pc_syntax.specs.declared.class.Class.{Class}
use Rattle.pc_syntax.specs.declared.class.Class.TheVariants as class
use Rattle.pc_syntax.specs.declared.item.Item.{Item}
use Rattle.pc_syntax.specs.declared.item.Item.TheVariants.{Literal, Word, Kid}
use Rattle.pc_syntax.specs.Spellings.{spelling_of}
use Rattle.pc_syntax.specs.Words.{is_identifier, is_forward, is_numeral, is_text}

-- of a node without a word
abbrev pub wordless : List ℕ → Option (List Item) → Option (List Item)
wordless [] o = o
wordless (b ∷ w) o = None

-- of a node whose word is the spelling of a symbol
abbrev pub spelled : Bool → Lexeme → Option (List Item)
spelled true x = Some (Word x ∷ [])
spelled false x = None

-- the one of these symbols that is written like the word
abbrev pub operator : List Lexeme → List ℕ → Option Lexeme
operator [] w = None
operator (x ∷ xs) w = if bytes_eq (spelling_of x) w then Some x else operator xs w

-- of a node whose word is that of an operator, which stands between these items
abbrev pub around : Option Lexeme → List Item → List Item → Option (List Item)
around None before behind = None
around (Some x) before behind = Some (before ++ Literal x ∷ behind)

-- of a node with a last `;` or none, which is its word
abbrev pub last_semicolon : List ℕ → List Item → List Item → Option (List Item)
last_semicolon [] before behind = Some (before ++ behind)
last_semicolon (b ∷ w) before behind = if bytes_eq (b ∷ w) (spelling_of lexeme.Semicolon) then Some (before ++ Literal lexeme.Semicolon ∷ behind) else None

-- n further elements of a list, a separator before each where there is one
abbrev pub further : Option Lexeme → Class → ℕ → List Item → List Item
further sep c zero close = close
further None c (suc n) close = Kid c ∷ further None c n close
further (Some x) c (suc n) close = Literal x ∷ Kid c ∷ further (Some x) c n close

-- of n elements, between these items where there are any
abbrev pub elements : List Item → Option Lexeme → Class → List Item → ℕ → Option (List Item)
elements opening sep c close zero = Some []
elements opening sep c close (suc n) = Some (opening ++ Kid c ∷ further sep c n close)

-- of one element or more
abbrev pub some_elements : Option Lexeme → Class → ℕ → Option (List Item)
some_elements sep c zero = None
some_elements sep c (suc n) = Some (Kid c ∷ further sep c n [])

-- what a node with this kind, word and number of kids is made of; none where there is no such node
abbrev pub layout : Kind → List ℕ → ℕ → Option (List Item)
layout Program w n = wordless w (Some (Literal lexeme.KeyProgram ∷ Kid class.Name ∷ Kid class.Heads ∷ Literal lexeme.Semicolon ∷ Kid class.Block ∷ Literal lexeme.Dot ∷ []))
layout Block w n = wordless w (Some (Kid class.Consts ∷ Kid class.Types ∷ Kid class.Vars ∷ Kid class.Routines ∷ Kid class.Body ∷ []))
layout Forward w n = spelled (is_forward w) lexeme.Identifier
layout Constdef w n = wordless w (Some (Kid class.Name ∷ Literal lexeme.Equal ∷ Kid class.Constant ∷ Literal lexeme.Semicolon ∷ []))
layout Typedef w n = wordless w (Some (Kid class.Name ∷ Literal lexeme.Equal ∷ Kid class.Denoter ∷ Literal lexeme.Semicolon ∷ []))
layout Vardef w n = wordless w (Some (Kid class.Names ∷ Literal lexeme.Colon ∷ Kid class.Denoter ∷ Literal lexeme.Semicolon ∷ []))
layout Field w n = wordless w (Some (Kid class.Names ∷ Literal lexeme.Colon ∷ Kid class.Denoter ∷ []))
layout Valparam w n = wordless w (Some (Kid class.Names ∷ Literal lexeme.Colon ∷ Kid class.Name ∷ []))
layout Varparam w n = wordless w (Some (Literal lexeme.KeyVar ∷ Kid class.Names ∷ Literal lexeme.Colon ∷ Kid class.Name ∷ []))
layout Procedure w n = wordless w (Some (Literal lexeme.KeyProcedure ∷ Kid class.Name ∷ Kid class.Params ∷ Literal lexeme.Semicolon ∷ Kid class.Block ∷ Literal lexeme.Semicolon ∷ []))
layout Function w n = wordless w (Some (Literal lexeme.KeyFunction ∷ Kid class.Name ∷ Kid class.Params ∷ Literal lexeme.Colon ∷ Kid class.Name ∷ Literal lexeme.Semicolon ∷ Kid class.Block ∷ Literal lexeme.Semicolon ∷ []))
layout Funbody w n = wordless w (Some (Literal lexeme.KeyFunction ∷ Kid class.Name ∷ Literal lexeme.Semicolon ∷ Kid class.Block ∷ Literal lexeme.Semicolon ∷ []))
layout Tname w n = wordless w (Some (Kid class.Name ∷ []))
layout Enum w n = wordless w (Some (Literal lexeme.OpenParen ∷ Kid class.Names ∷ Literal lexeme.CloseParen ∷ []))
layout Subrange w n = wordless w (Some (Kid class.Constant ∷ Literal lexeme.DotDot ∷ Kid class.Constant ∷ []))
layout Array w n = wordless w (Some (Literal lexeme.KeyArray ∷ Literal lexeme.OpenBracket ∷ Kid class.Indexes ∷ Literal lexeme.CloseBracket ∷ Literal lexeme.KeyOf ∷ Kid class.Denoter ∷ []))
layout Record w n = last_semicolon w (Literal lexeme.KeyRecord ∷ Kid class.Fields ∷ []) (Literal lexeme.KeyEnd ∷ [])
layout Record0 w n = wordless w (Some (Literal lexeme.KeyRecord ∷ Literal lexeme.KeyEnd ∷ []))
layout Setof w n = wordless w (Some (Literal lexeme.KeySet ∷ Literal lexeme.KeyOf ∷ Kid class.Ordinal ∷ []))
layout Packed w n = wordless w (Some (Literal lexeme.KeyPacked ∷ Kid class.Structured ∷ []))
layout Pointer w n = wordless w (Some (Literal lexeme.Caret ∷ Kid class.Name ∷ []))
layout Cnumber w n = spelled (is_numeral w) lexeme.Numeral
layout Cstring w n = spelled (is_text w) lexeme.Text
layout Cname w n = wordless w (Some (Kid class.Name ∷ []))
layout Csign w n = around (operator (lexeme.Plus ∷ lexeme.Minus ∷ []) w) [] (Kid class.Bare ∷ [])
layout Empty w n = wordless w (Some [])
layout Assign w n = wordless w (Some (Kid class.Access ∷ Literal lexeme.Becomes ∷ Kid class.Expression ∷ []))
layout Proc w n = wordless w (Some (Kid class.Name ∷ Kid class.Args ∷ []))
layout Compound w n = wordless w (Some (Literal lexeme.KeyBegin ∷ Kid class.Stmts ∷ Literal lexeme.KeyEnd ∷ []))
layout If w n = wordless w (Some (Literal lexeme.KeyIf ∷ Kid class.Expression ∷ Literal lexeme.KeyThen ∷ Kid class.Statement ∷ []))
layout Ifelse w n = wordless w (Some (Literal lexeme.KeyIf ∷ Kid class.Expression ∷ Literal lexeme.KeyThen ∷ Kid class.Statement ∷ Literal lexeme.KeyElse ∷ Kid class.Statement ∷ []))
layout Case w n = last_semicolon w (Literal lexeme.KeyCase ∷ Kid class.Expression ∷ Literal lexeme.KeyOf ∷ Kid class.Arms ∷ []) (Literal lexeme.KeyEnd ∷ [])
layout Arm w n = wordless w (Some (Kid class.Labels ∷ Literal lexeme.Colon ∷ Kid class.Statement ∷ []))
layout Repeat w n = wordless w (Some (Literal lexeme.KeyRepeat ∷ Kid class.Stmts ∷ Literal lexeme.KeyUntil ∷ Kid class.Expression ∷ []))
layout While w n = wordless w (Some (Literal lexeme.KeyWhile ∷ Kid class.Expression ∷ Literal lexeme.KeyDo ∷ Kid class.Statement ∷ []))
layout For w n = around (operator (lexeme.KeyTo ∷ lexeme.KeyDownto ∷ []) w) (Literal lexeme.KeyFor ∷ Kid class.Name ∷ Literal lexeme.Becomes ∷ Kid class.Expression ∷ []) (Kid class.Expression ∷ Literal lexeme.KeyDo ∷ Kid class.Statement ∷ [])
layout With w n = wordless w (Some (Literal lexeme.KeyWith ∷ Kid class.Accesses ∷ Literal lexeme.KeyDo ∷ Kid class.Statement ∷ []))
layout Ref w n = wordless w (Some (Kid class.Name ∷ []))
layout Index w n = wordless w (Some (Kid class.Access ∷ Literal lexeme.OpenBracket ∷ Kid class.Exprs ∷ Literal lexeme.CloseBracket ∷ []))
layout Select w n = wordless w (Some (Kid class.Access ∷ Literal lexeme.Dot ∷ Kid class.Name ∷ []))
layout Deref w n = wordless w (Some (Kid class.Access ∷ Literal lexeme.Caret ∷ []))
layout Number w n = spelled (is_numeral w) lexeme.Numeral
layout Text w n = spelled (is_text w) lexeme.Text
layout Nil w n = wordless w (Some (Literal lexeme.KeyNil ∷ []))
layout Call w n = wordless w (Some (Kid class.Name ∷ Literal lexeme.OpenParen ∷ Kid class.Exprs ∷ Literal lexeme.CloseParen ∷ []))
layout Parens w n = wordless w (Some (Literal lexeme.OpenParen ∷ Kid class.Expression ∷ Literal lexeme.CloseParen ∷ []))
layout Not w n = wordless w (Some (Literal lexeme.KeyNot ∷ Kid class.Factor ∷ []))
layout Setcon w n = wordless w (Some (Literal lexeme.OpenBracket ∷ Kid class.Members ∷ Literal lexeme.CloseBracket ∷ []))
layout Mul w n = around (operator (lexeme.Star ∷ lexeme.KeyDiv ∷ lexeme.KeyMod ∷ lexeme.KeyAnd ∷ []) w) (Kid class.Term ∷ []) (Kid class.Factor ∷ [])
layout Add w n = around (operator (lexeme.Plus ∷ lexeme.Minus ∷ lexeme.KeyOr ∷ []) w) (Kid class.Simple ∷ []) (Kid class.Term ∷ [])
layout Sign w n = around (operator (lexeme.Plus ∷ lexeme.Minus ∷ []) w) [] (Kid class.Term ∷ [])
layout Rel w n = around (operator (lexeme.Equal ∷ lexeme.Unequal ∷ lexeme.Less ∷ lexeme.Greater ∷ lexeme.AtMost ∷ lexeme.AtLeast ∷ lexeme.KeyIn ∷ []) w) (Kid class.Simple ∷ []) (Kid class.Simple ∷ [])
layout Width w n = wordless w (Some (Kid class.Expression ∷ Literal lexeme.Colon ∷ Kid class.Expression ∷ []))
layout Span w n = wordless w (Some (Kid class.Expression ∷ Literal lexeme.DotDot ∷ Kid class.Expression ∷ []))
layout Name w n = spelled (is_identifier w) lexeme.Identifier
layout Heads w n = wordless w (elements (Literal lexeme.OpenParen ∷ []) (Some lexeme.Comma) class.Name (Literal lexeme.CloseParen ∷ []) n)
layout Args w n = wordless w (elements (Literal lexeme.OpenParen ∷ []) (Some lexeme.Comma) class.Argument (Literal lexeme.CloseParen ∷ []) n)
layout Params w n = wordless w (elements (Literal lexeme.OpenParen ∷ []) (Some lexeme.Semicolon) class.Parameter (Literal lexeme.CloseParen ∷ []) n)
layout Names w n = wordless w (some_elements (Some lexeme.Comma) class.Name n)
layout Labels w n = wordless w (some_elements (Some lexeme.Comma) class.Constant n)
layout Indexes w n = wordless w (some_elements (Some lexeme.Comma) class.Ordinal n)
layout Exprs w n = wordless w (some_elements (Some lexeme.Comma) class.Expression n)
layout Accesses w n = wordless w (some_elements (Some lexeme.Comma) class.Access n)
layout Members w n = wordless w (elements [] (Some lexeme.Comma) class.Member [] n)
layout Consts w n = wordless w (elements (Literal lexeme.KeyConst ∷ []) None class.Constdef [] n)
layout Types w n = wordless w (elements (Literal lexeme.KeyType ∷ []) None class.Typedef [] n)
layout Vars w n = wordless w (elements (Literal lexeme.KeyVar ∷ []) None class.Vardef [] n)
layout Routines w n = wordless w (elements [] None class.Routine [] n)
layout Fields w n = wordless w (some_elements (Some lexeme.Semicolon) class.Field n)
layout Stmts w n = wordless w (some_elements (Some lexeme.Semicolon) class.Statement n)
layout Arms w n = wordless w (some_elements (Some lexeme.Semicolon) class.Arm n)
layout (Hole s) w n = wordless w (Some (Literal (lexeme.Hole s) ∷ []))
