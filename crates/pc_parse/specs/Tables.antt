-- What the reading machine does at each symbol, by tables.
use Rattle.std.specs.Prelude.{ℕ, Bool, true, false, ◌&&◌, if◌then◌else◌, List, [], ◌∷◌, Option, Some, None}
use Rattle.pc_syntax.specs.declared.lexeme.Lexeme.{Lexeme}
use Rattle.pc_syntax.specs.declared.lexeme.Lexeme.TheVariants as lexeme
use Rattle.pc_syntax.specs.declared.kind.Kind.{Kind}
use Rattle.pc_syntax.specs.declared.kind.Kind.TheVariants.{Program, Block, Forward, Constdef, Typedef, Vardef, Valparam, Varparam, Procedure, Function, Funbody, Field, Tname, Enum, Subrange, Array, Record, Record0, Setof, Packed, Pointer, Cnumber, Cstring, Cname, Csign, Empty, Assign, Proc, Compound, If, Ifelse, Case, Arm, Repeat, While, For, With, Ref, Index, Select, Deref, Number, Text, Nil, Call, Parens, Not, Setcon, Mul, Add, Sign, Rel, Width, Span, Name, Heads, Args, Params, Names, Labels, Indexes, Exprs, Accesses, Members, Vars, Fields, Stmts, Arms, Consts, Types, Routines, Hole}
use Rattle.pc_syntax.specs.declared.class.Class.{Class}
use Rattle.pc_syntax.specs.declared.class.Class.TheVariants as class
use Rattle.pc_syntax.specs.declared.item.Item.{Item}
use Rattle.pc_syntax.specs.declared.item.Item.TheVariants.{Literal, Kid}
use Rattle.pc_syntax.specs.declared.sort.Sort.TheVariants as sort
use Rattle.pc_syntax.specs.Spellings.{spelling_of}
use Rattle.pc_parse.specs.Lookahead.{same_at}

-- how the kid of a class begins at a symbol: as a leaf or an opened node, which take it; as a node that begins with
-- a kid; as a node without symbols; or not at all
pub data Start : Type 0 where
  Leaf : Kind → Start
  Open : Kind → List ℕ → List Item → Start
  Predict : Kind → List Item → Start
  Blank : Kind → Start
  NoStart : Start

abbrev pub name_start : Option Lexeme → Start
name_start (Some lexeme.Identifier) = Leaf Name
name_start (Some (lexeme.Hole sort.Name)) = Open (Hole sort.Name) [] []
name_start _ = NoStart

abbrev pub access_start : Option Lexeme → Start
access_start x = if same_at (lexeme.Hole sort.Expression) x then Open (Hole sort.Expression) [] [] else name_start x

abbrev pub program_start : Option Lexeme → Start
program_start (Some lexeme.KeyProgram) = Open Program [] (Kid class.Name ∷ Kid class.Heads ∷ Literal lexeme.Semicolon ∷ Kid class.Block ∷ Literal lexeme.Dot ∷ [])
program_start (Some (lexeme.Hole sort.Program)) = Open (Hole sort.Program) [] []
program_start _ = NoStart

abbrev pub block_start : Option Lexeme → Start
block_start (Some lexeme.Identifier) = Leaf Forward
block_start (Some lexeme.KeyConst) = Predict Block (Kid class.Consts ∷ Kid class.Types ∷ Kid class.Vars ∷ Kid class.Routines ∷ Kid class.Body ∷ [])
block_start (Some lexeme.KeyType) = Predict Block (Kid class.Consts ∷ Kid class.Types ∷ Kid class.Vars ∷ Kid class.Routines ∷ Kid class.Body ∷ [])
block_start (Some lexeme.KeyVar) = Predict Block (Kid class.Consts ∷ Kid class.Types ∷ Kid class.Vars ∷ Kid class.Routines ∷ Kid class.Body ∷ [])
block_start (Some lexeme.KeyProcedure) = Predict Block (Kid class.Consts ∷ Kid class.Types ∷ Kid class.Vars ∷ Kid class.Routines ∷ Kid class.Body ∷ [])
block_start (Some lexeme.KeyFunction) = Predict Block (Kid class.Consts ∷ Kid class.Types ∷ Kid class.Vars ∷ Kid class.Routines ∷ Kid class.Body ∷ [])
block_start (Some lexeme.KeyBegin) = Predict Block (Kid class.Consts ∷ Kid class.Types ∷ Kid class.Vars ∷ Kid class.Routines ∷ Kid class.Body ∷ [])
block_start (Some (lexeme.Hole sort.Block)) = Open (Hole sort.Block) [] []
block_start (Some (lexeme.Hole sort.Routine)) = Predict Block (Kid class.Consts ∷ Kid class.Types ∷ Kid class.Vars ∷ Kid class.Routines ∷ Kid class.Body ∷ [])
block_start (Some (lexeme.Hole sort.Statement)) = Predict Block (Kid class.Consts ∷ Kid class.Types ∷ Kid class.Vars ∷ Kid class.Routines ∷ Kid class.Body ∷ [])
block_start _ = NoStart

abbrev pub heads_start : Option Lexeme → Start
heads_start (Some lexeme.OpenParen) = Open Heads [] (Kid class.Name ∷ Literal lexeme.CloseParen ∷ [])
heads_start _ = Blank Heads

abbrev pub args_start : Option Lexeme → Start
args_start (Some lexeme.OpenParen) = Open Args [] (Kid class.Argument ∷ Literal lexeme.CloseParen ∷ [])
args_start _ = Blank Args

abbrev pub consts_start : Option Lexeme → Start
consts_start (Some lexeme.KeyConst) = Open Consts [] (Kid class.Constdef ∷ [])
consts_start _ = Blank Consts

abbrev pub constdef_start : Option Lexeme → Start
constdef_start (Some lexeme.Identifier) = Leaf Name
constdef_start (Some (lexeme.Hole sort.ConstDef)) = Open (Hole sort.ConstDef) [] []
constdef_start (Some (lexeme.Hole sort.Name)) = Open (Hole sort.Name) [] []
constdef_start _ = NoStart

abbrev pub bare_start : Option Lexeme → Start
bare_start (Some lexeme.Identifier) = Leaf Name
bare_start (Some lexeme.Numeral) = Leaf Cnumber
bare_start (Some (lexeme.Hole sort.Constant)) = Open (Hole sort.Constant) [] []
bare_start (Some (lexeme.Hole sort.Name)) = Open (Hole sort.Name) [] []
bare_start _ = NoStart

abbrev pub constant_start : Option Lexeme → Start
constant_start x =
    if same_at lexeme.Text x then Leaf Cstring
    else (if same_at lexeme.Plus x then Open Csign (spelling_of lexeme.Plus) (Kid class.Bare ∷ []) else (if same_at lexeme.Minus x then Open Csign (spelling_of lexeme.Minus) (Kid class.Bare ∷ []) else bare_start x))

abbrev pub types_start : Option Lexeme → Start
types_start (Some lexeme.KeyType) = Open Types [] (Kid class.Typedef ∷ [])
types_start _ = Blank Types

abbrev pub typedef_start : Option Lexeme → Start
typedef_start (Some lexeme.Identifier) = Leaf Name
typedef_start (Some (lexeme.Hole sort.TypeDef)) = Open (Hole sort.TypeDef) [] []
typedef_start (Some (lexeme.Hole sort.Name)) = Open (Hole sort.Name) [] []
typedef_start _ = NoStart

abbrev pub vars_start : Option Lexeme → Start
vars_start (Some lexeme.KeyVar) = Open Vars [] (Kid class.Vardef ∷ [])
vars_start _ = Blank Vars

abbrev pub vardef_start : Option Lexeme → Start
vardef_start (Some lexeme.Identifier) = Predict Vardef (Kid class.Names ∷ Literal lexeme.Colon ∷ Kid class.Denoter ∷ Literal lexeme.Semicolon ∷ [])
vardef_start (Some (lexeme.Hole sort.VarDef)) = Open (Hole sort.VarDef) [] []
vardef_start (Some (lexeme.Hole sort.Name)) = Predict Vardef (Kid class.Names ∷ Literal lexeme.Colon ∷ Kid class.Denoter ∷ Literal lexeme.Semicolon ∷ [])
vardef_start _ = NoStart

abbrev pub field_start : Option Lexeme → Start
field_start (Some lexeme.Identifier) = Predict Field (Kid class.Names ∷ Literal lexeme.Colon ∷ Kid class.Denoter ∷ [])
field_start (Some (lexeme.Hole sort.Field)) = Open (Hole sort.Field) [] []
field_start (Some (lexeme.Hole sort.Name)) = Predict Field (Kid class.Names ∷ Literal lexeme.Colon ∷ Kid class.Denoter ∷ [])
field_start _ = NoStart

abbrev pub fields_start : Option Lexeme → Start
fields_start (Some lexeme.KeyEnd) = NoStart
fields_start _ = Predict Fields (Kid class.Field ∷ [])

abbrev pub params_start : Option Lexeme → Start
params_start (Some lexeme.OpenParen) = Open Params [] (Kid class.Parameter ∷ Literal lexeme.CloseParen ∷ [])
params_start _ = Blank Params

abbrev pub parameter_start : Option Lexeme → Start
parameter_start (Some lexeme.Identifier) = Predict Valparam (Kid class.Names ∷ Literal lexeme.Colon ∷ Kid class.Name ∷ [])
parameter_start (Some lexeme.KeyVar) = Open Varparam [] (Kid class.Names ∷ Literal lexeme.Colon ∷ Kid class.Name ∷ [])
parameter_start (Some (lexeme.Hole sort.Parameter)) = Open (Hole sort.Parameter) [] []
parameter_start (Some (lexeme.Hole sort.Name)) = Predict Valparam (Kid class.Names ∷ Literal lexeme.Colon ∷ Kid class.Name ∷ [])
parameter_start _ = NoStart

abbrev pub routines_start : Option Lexeme → Start
routines_start (Some lexeme.KeyProcedure) = Predict Routines (Kid class.Routine ∷ [])
routines_start (Some lexeme.KeyFunction) = Predict Routines (Kid class.Routine ∷ [])
routines_start (Some (lexeme.Hole sort.Routine)) = Predict Routines (Kid class.Routine ∷ [])
routines_start _ = Blank Routines

-- a function begins as one that was announced before
abbrev pub routine_start : Option Lexeme → Start
routine_start (Some lexeme.KeyProcedure) = Open Procedure [] (Kid class.Name ∷ Kid class.Params ∷ Literal lexeme.Semicolon ∷ Kid class.Block ∷ Literal lexeme.Semicolon ∷ [])
routine_start (Some lexeme.KeyFunction) = Open Funbody [] (Kid class.Name ∷ Literal lexeme.Semicolon ∷ Kid class.Block ∷ Literal lexeme.Semicolon ∷ [])
routine_start (Some (lexeme.Hole sort.Routine)) = Open (Hole sort.Routine) [] []
routine_start _ = NoStart

abbrev pub ordinal_start : Option Lexeme → Start
ordinal_start x =
    if same_at lexeme.OpenParen x then Open Enum [] (Kid class.Names ∷ Literal lexeme.CloseParen ∷ [])
    else (if same_at (lexeme.Hole sort.Denoter) x then Open (Hole sort.Denoter) [] [] else constant_start x)

abbrev pub structured_start : Option Lexeme → Start
structured_start (Some lexeme.KeyArray) = Open Array [] (Literal lexeme.OpenBracket ∷ Kid class.Indexes ∷ Literal lexeme.CloseBracket ∷ Literal lexeme.KeyOf ∷ Kid class.Denoter ∷ [])
structured_start (Some lexeme.KeyRecord) = Open Record [] (Kid class.Fields ∷ Literal lexeme.KeyEnd ∷ [])
structured_start (Some lexeme.KeySet) = Open Setof [] (Literal lexeme.KeyOf ∷ Kid class.Ordinal ∷ [])
structured_start (Some (lexeme.Hole sort.Denoter)) = Open (Hole sort.Denoter) [] []
structured_start _ = NoStart

abbrev pub is_structure : Option Lexeme → Bool
is_structure (Some lexeme.KeyArray) = true
is_structure (Some lexeme.KeyRecord) = true
is_structure (Some lexeme.KeySet) = true
is_structure _ = false

abbrev pub denoter_start : Option Lexeme → Start
denoter_start x =
    if same_at lexeme.KeyPacked x then Open Packed [] (Kid class.Structured ∷ [])
    else (if same_at lexeme.Caret x then Open Pointer [] (Kid class.Name ∷ []) else (if is_structure x then structured_start x else ordinal_start x))

abbrev pub body_start : Option Lexeme → Start
body_start (Some lexeme.KeyBegin) = Open Compound [] (Kid class.Stmts ∷ Literal lexeme.KeyEnd ∷ [])
body_start (Some (lexeme.Hole sort.Statement)) = Open (Hole sort.Statement) [] []
body_start _ = NoStart

abbrev pub statement_start : Option Lexeme → Start
statement_start (Some lexeme.Identifier) = Leaf Name
statement_start (Some lexeme.KeyBegin) = Open Compound [] (Kid class.Stmts ∷ Literal lexeme.KeyEnd ∷ [])
statement_start (Some lexeme.KeyIf) = Open If [] (Kid class.Expression ∷ Literal lexeme.KeyThen ∷ Kid class.Statement ∷ [])
statement_start (Some lexeme.KeyCase) = Open Case [] (Kid class.Expression ∷ Literal lexeme.KeyOf ∷ Kid class.Arms ∷ Literal lexeme.KeyEnd ∷ [])
statement_start (Some lexeme.KeyRepeat) = Open Repeat [] (Kid class.Stmts ∷ Literal lexeme.KeyUntil ∷ Kid class.Expression ∷ [])
statement_start (Some lexeme.KeyWhile) = Open While [] (Kid class.Expression ∷ Literal lexeme.KeyDo ∷ Kid class.Statement ∷ [])
statement_start (Some lexeme.KeyFor) = Open For (spelling_of lexeme.KeyTo) (Kid class.Name ∷ Literal lexeme.Becomes ∷ Kid class.Expression ∷ Literal lexeme.KeyTo ∷ Kid class.Expression ∷ Literal lexeme.KeyDo ∷ Kid class.Statement ∷ [])
statement_start (Some lexeme.KeyWith) = Open With [] (Kid class.Accesses ∷ Literal lexeme.KeyDo ∷ Kid class.Statement ∷ [])
statement_start (Some (lexeme.Hole sort.Statement)) = Open (Hole sort.Statement) [] []
statement_start (Some (lexeme.Hole sort.Expression)) = Open (Hole sort.Expression) [] []
statement_start (Some (lexeme.Hole sort.Name)) = Open (Hole sort.Name) [] []
statement_start _ = Blank Empty

abbrev pub arm_start : Option Lexeme → Start
arm_start (Some lexeme.Identifier) = Predict Arm (Kid class.Labels ∷ Literal lexeme.Colon ∷ Kid class.Statement ∷ [])
arm_start (Some lexeme.Numeral) = Predict Arm (Kid class.Labels ∷ Literal lexeme.Colon ∷ Kid class.Statement ∷ [])
arm_start (Some lexeme.Text) = Predict Arm (Kid class.Labels ∷ Literal lexeme.Colon ∷ Kid class.Statement ∷ [])
arm_start (Some lexeme.Plus) = Predict Arm (Kid class.Labels ∷ Literal lexeme.Colon ∷ Kid class.Statement ∷ [])
arm_start (Some lexeme.Minus) = Predict Arm (Kid class.Labels ∷ Literal lexeme.Colon ∷ Kid class.Statement ∷ [])
arm_start (Some (lexeme.Hole sort.Arm)) = Open (Hole sort.Arm) [] []
arm_start (Some (lexeme.Hole sort.Constant)) = Predict Arm (Kid class.Labels ∷ Literal lexeme.Colon ∷ Kid class.Statement ∷ [])
arm_start (Some (lexeme.Hole sort.Name)) = Predict Arm (Kid class.Labels ∷ Literal lexeme.Colon ∷ Kid class.Statement ∷ [])
arm_start _ = NoStart

abbrev pub factor_start : Option Lexeme → Start
factor_start (Some lexeme.Identifier) = Leaf Name
factor_start (Some lexeme.Numeral) = Leaf Number
factor_start (Some lexeme.Text) = Leaf Text
factor_start (Some lexeme.KeyNil) = Open Nil [] []
factor_start (Some lexeme.KeyNot) = Open Not [] (Kid class.Factor ∷ [])
factor_start (Some lexeme.OpenParen) = Open Parens [] (Kid class.Expression ∷ Literal lexeme.CloseParen ∷ [])
factor_start (Some lexeme.OpenBracket) = Open Setcon [] (Kid class.Members ∷ Literal lexeme.CloseBracket ∷ [])
factor_start (Some (lexeme.Hole sort.Expression)) = Open (Hole sort.Expression) [] []
factor_start (Some (lexeme.Hole sort.Name)) = Open (Hole sort.Name) [] []
factor_start _ = NoStart

abbrev pub simple_start : Option Lexeme → Start
simple_start x =
    if same_at lexeme.Plus x then Open Sign (spelling_of lexeme.Plus) (Kid class.Term ∷ [])
    else (if same_at lexeme.Minus x then Open Sign (spelling_of lexeme.Minus) (Kid class.Term ∷ []) else factor_start x)

abbrev pub members_start : Option Lexeme → Start
members_start (Some lexeme.CloseBracket) = Blank Members
members_start _ = Predict Members (Kid class.Member ∷ [])

abbrev pub start : Class → Option Lexeme → Start
start class.Program x = program_start x
start class.Block x = block_start x
start class.Heads x = heads_start x
start class.Args x = args_start x
start class.Consts x = consts_start x
start class.Types x = types_start x
start class.Vars x = vars_start x
start class.Routines x = routines_start x
start class.Vardef x = vardef_start x
start class.Denoter x = denoter_start x
start class.Body x = body_start x
start class.Statement x = statement_start x
start class.Name x = name_start x
start class.Access x = access_start x
start class.Factor x = factor_start x
start class.Term x = factor_start x
start class.Simple x = simple_start x
start class.Expression x = simple_start x
start class.Argument x = simple_start x
start class.Member x = simple_start x
start class.Operand x = simple_start x
start class.Members x = members_start x
start class.Names x = Predict Names (Kid class.Name ∷ [])
start class.Exprs x = Predict Exprs (Kid class.Expression ∷ [])
start class.Accesses x = Predict Accesses (Kid class.Access ∷ [])
start class.Stmts x = Predict Stmts (Kid class.Statement ∷ [])
start class.Labels x = Predict Labels (Kid class.Constant ∷ [])
start class.Arms x = Predict Arms (Kid class.Arm ∷ [])
start class.Fields x = fields_start x
start class.Constdef x = constdef_start x
start class.Typedef x = typedef_start x
start class.Structured x = structured_start x
start class.Ordinal x = ordinal_start x
start class.Indexes x = Predict Indexes (Kid class.Ordinal ∷ [])
start class.Field x = field_start x
start class.Routine x = routine_start x
start class.Params x = params_start x
start class.Parameter x = parameter_start x
start class.Constant x = constant_start x
start class.Bare x = bare_start x
start class.Arm x = arm_start x

-- what becomes of a finished node where a kid of a class is awaited: it is given as that kid; or it becomes the first
-- kid of a node, alone, or of one that goes on and takes the symbol, or that goes on without taking it
pub data Grow : Type 0 where
  Give : Grow
  Wrap : Kind → Grow
  Shift : Kind → List ℕ → List Item → Grow
  Enter : Kind → List Item → Grow

-- the spelling of the symbol, where there is one
abbrev pub spelling_at : Option Lexeme → List ℕ
spelling_at None = []
spelling_at (Some x) = spelling_of x

abbrev pub multiplies : Option Lexeme → Bool
multiplies (Some lexeme.Star) = true
multiplies (Some lexeme.KeyDiv) = true
multiplies (Some lexeme.KeyMod) = true
multiplies (Some lexeme.KeyAnd) = true
multiplies _ = false

abbrev pub adds : Option Lexeme → Bool
adds (Some lexeme.Plus) = true
adds (Some lexeme.Minus) = true
adds (Some lexeme.KeyOr) = true
adds _ = false

abbrev pub relates : Option Lexeme → Bool
relates (Some lexeme.Equal) = true
relates (Some lexeme.Unequal) = true
relates (Some lexeme.Less) = true
relates (Some lexeme.Greater) = true
relates (Some lexeme.AtMost) = true
relates (Some lexeme.AtLeast) = true
relates (Some lexeme.KeyIn) = true
relates _ = false

abbrev pub is_colon : Option Lexeme → Bool
is_colon (Some lexeme.Colon) = true
is_colon _ = false

abbrev pub is_range : Option Lexeme → Bool
is_range (Some lexeme.DotDot) = true
is_range _ = false

-- whether a width, a span, a relation, a sum, a product may stand where the class is awaited
abbrev pub takes_width : Class → Bool
takes_width class.Argument = true
takes_width class.Operand = true
takes_width _ = false

abbrev pub takes_span : Class → Bool
takes_span class.Member = true
takes_span class.Operand = true
takes_span _ = false

abbrev pub takes_relation : Class → Bool
takes_relation class.Expression = true
takes_relation class.Member = true
takes_relation c = takes_width c

abbrev pub takes_sum : Class → Bool
takes_sum class.Simple = true
takes_sum c = takes_relation c

abbrev pub takes_product : Class → Bool
takes_product class.Term = true
takes_product c = takes_sum c

abbrev pub grow_relation : Class → Option Lexeme → Grow
grow_relation c x =
    if takes_width c && is_colon x then Shift Width [] (Kid class.Expression ∷ [])
    else (if takes_span c && is_range x then Shift Span [] (Kid class.Expression ∷ []) else Give)

abbrev pub grow_simple : Class → Option Lexeme → Grow
grow_simple c x =
    if takes_sum c && adds x then Shift Add (spelling_at x) (Kid class.Term ∷ [])
    else (if takes_relation c && relates x then Shift Rel (spelling_at x) (Kid class.Simple ∷ []) else grow_relation c x)

abbrev pub grow_term : Class → Option Lexeme → Grow
grow_term c x = if takes_product c && multiplies x then Shift Mul (spelling_at x) (Kid class.Factor ∷ []) else grow_simple c x

abbrev pub grow_target : Class → Grow → Grow
grow_target class.Statement g = Shift Assign [] (Kid class.Expression ∷ [])
grow_target c g = g

abbrev pub grow_access : Class → Option Lexeme → Grow
grow_access c (Some lexeme.OpenBracket) = Shift Index [] (Kid class.Exprs ∷ Literal lexeme.CloseBracket ∷ [])
grow_access c (Some lexeme.Dot) = Shift Select [] (Kid class.Name ∷ [])
grow_access c (Some lexeme.Caret) = Shift Deref [] []
grow_access c (Some lexeme.Becomes) = grow_target c Give
grow_access c x = grow_term c x

abbrev pub grow_statement_name : Option Lexeme → Grow
grow_statement_name (Some lexeme.Becomes) = Wrap Ref
grow_statement_name (Some lexeme.OpenBracket) = Wrap Ref
grow_statement_name (Some lexeme.Dot) = Wrap Ref
grow_statement_name (Some lexeme.Caret) = Wrap Ref
grow_statement_name _ = Enter Proc (Kid class.Args ∷ [])

abbrev pub grow_factor_name : Option Lexeme → Grow
grow_factor_name (Some lexeme.OpenParen) = Shift Call [] (Kid class.Exprs ∷ Literal lexeme.CloseParen ∷ [])
grow_factor_name _ = Wrap Ref

abbrev pub grow_defined_name : Option Lexeme → Grow
grow_defined_name (Some lexeme.Equal) = Shift Constdef [] (Kid class.Constant ∷ Literal lexeme.Semicolon ∷ [])
grow_defined_name _ = Give

abbrev pub grow_defined_type : Option Lexeme → Grow
grow_defined_type (Some lexeme.Equal) = Shift Typedef [] (Kid class.Denoter ∷ Literal lexeme.Semicolon ∷ [])
grow_defined_type _ = Give

-- the name of a type, or the first bound of a subrange
abbrev pub grow_type_name : Option Lexeme → Grow
grow_type_name (Some lexeme.DotDot) = Wrap Cname
grow_type_name _ = Wrap Tname

abbrev pub grow_range : Option Lexeme → Grow
grow_range (Some lexeme.DotDot) = Shift Subrange [] (Kid class.Constant ∷ [])
grow_range _ = Give

abbrev pub grow_bound : Class → Option Lexeme → Grow
grow_bound class.Denoter x = grow_range x
grow_bound class.Ordinal x = grow_range x
grow_bound _ x = Give

abbrev pub grow_name : Class → Option Lexeme → Grow
grow_name class.Name x = Give
grow_name class.Access x = Wrap Ref
grow_name class.Denoter x = grow_type_name x
grow_name class.Ordinal x = grow_type_name x
grow_name class.Typedef x = grow_defined_type x
grow_name class.Constdef x = grow_defined_name x
grow_name class.Constant x = Wrap Cname
grow_name class.Bare x = Wrap Cname
grow_name class.Statement x = grow_statement_name x
grow_name class.Factor x = grow_factor_name x
grow_name class.Term x = grow_factor_name x
grow_name class.Simple x = grow_factor_name x
grow_name class.Expression x = grow_factor_name x
grow_name class.Argument x = grow_factor_name x
grow_name class.Member x = grow_factor_name x
grow_name class.Operand x = grow_factor_name x
grow_name _ x = Give

abbrev pub grow : Kind → Class → Option Lexeme → Grow
grow Name c x = grow_name c x
grow Ref c x = grow_access c x
grow Index c x = grow_access c x
grow Select c x = grow_access c x
grow Deref c x = grow_access c x
grow Number c x = grow_term c x
grow Text c x = grow_term c x
grow Nil c x = grow_term c x
grow Call c x = grow_term c x
grow Parens c x = grow_term c x
grow Not c x = grow_term c x
grow Setcon c x = grow_term c x
grow Mul c x = grow_term c x
grow Add c x = grow_simple c x
grow Sign c x = grow_simple c x
grow Rel c x = grow_relation c x
grow Cnumber c x = grow_bound c x
grow Cstring c x = grow_bound c x
grow Cname c x = grow_bound c x
grow Csign c x = grow_bound c x
grow (Hole sort.Constant) c x = grow_bound c x
grow (Hole sort.Expression) c x = grow_access c x
grow (Hole sort.Name) c x = grow_name c x
grow _ c x = Give

-- how a node goes on at a symbol that isn't the next of its items, which it takes
abbrev pub switch : Kind → List Item → Option Lexeme → Option (Kind × List Item)
switch If [] (Some lexeme.KeyElse) = Some (Ifelse, (Kid class.Statement ∷ []))
switch For (Literal lexeme.KeyTo ∷ m) (Some lexeme.KeyDownto) = Some (For, (Kid class.Expression ∷ Literal lexeme.KeyDo ∷ Kid class.Statement ∷ []))
switch Stmts [] (Some lexeme.Semicolon) = Some (Stmts, (Kid class.Statement ∷ []))
switch Arms [] (Some lexeme.Semicolon) = Some (Arms, (Kid class.Arm ∷ []))
switch Fields [] (Some lexeme.Semicolon) = Some (Fields, (Kid class.Field ∷ []))
switch Labels [] (Some lexeme.Comma) = Some (Labels, (Kid class.Constant ∷ []))
switch Indexes [] (Some lexeme.Comma) = Some (Indexes, (Kid class.Ordinal ∷ []))
switch Exprs [] (Some lexeme.Comma) = Some (Exprs, (Kid class.Expression ∷ []))
switch Accesses [] (Some lexeme.Comma) = Some (Accesses, (Kid class.Access ∷ []))
switch Members [] (Some lexeme.Comma) = Some (Members, (Kid class.Member ∷ []))
switch Names [] (Some lexeme.Comma) = Some (Names, (Kid class.Name ∷ []))
switch Args (Literal lexeme.CloseParen ∷ []) (Some lexeme.Comma) = Some (Args, (Kid class.Argument ∷ Literal lexeme.CloseParen ∷ []))
switch Params (Literal lexeme.CloseParen ∷ []) (Some lexeme.Semicolon) = Some (Params, (Kid class.Parameter ∷ Literal lexeme.CloseParen ∷ []))
switch Heads (Literal lexeme.CloseParen ∷ []) (Some lexeme.Comma) = Some (Heads, (Kid class.Name ∷ Literal lexeme.CloseParen ∷ []))
switch _ _ _ = None

-- as what a node goes on, and with which items, at a symbol at which its next item can't come; the symbol is left
abbrev pub recast : Kind → List Item → Option Lexeme → Option (Kind × List Item)
recast Funbody (Literal lexeme.Semicolon ∷ Kid class.Block ∷ Literal lexeme.Semicolon ∷ []) (Some lexeme.OpenParen) = Some (Function, (Kid class.Params ∷ Literal lexeme.Colon ∷ Kid class.Name ∷ Literal lexeme.Semicolon ∷ Kid class.Block ∷ Literal lexeme.Semicolon ∷ []))
recast Funbody (Literal lexeme.Semicolon ∷ Kid class.Block ∷ Literal lexeme.Semicolon ∷ []) (Some lexeme.Colon) = Some (Function, (Kid class.Params ∷ Literal lexeme.Colon ∷ Kid class.Name ∷ Literal lexeme.Semicolon ∷ Kid class.Block ∷ Literal lexeme.Semicolon ∷ []))
recast Record (Kid class.Fields ∷ Literal lexeme.KeyEnd ∷ []) (Some lexeme.KeyEnd) = Some (Record0, (Literal lexeme.KeyEnd ∷ []))
recast _ _ _ = None

-- whether a list of the first kind that awaits a further element, where none can come, ends in front of its last
-- separator, which is then the last `;` of the node of the second kind that awaits the list
abbrev pub closes : Kind → List Item → Kind → List Item → Bool
closes Arms (Kid class.Arm ∷ []) Case (Kid class.Arms ∷ Literal lexeme.KeyEnd ∷ []) = true
closes Fields (Kid class.Field ∷ []) Record (Kid class.Fields ∷ Literal lexeme.KeyEnd ∷ []) = true
closes _ _ _ _ = false

-- the word of a node that goes on at a symbol that it takes: a loop that was taken for one upwards goes downwards
abbrev pub turned_word : Kind → List ℕ → List ℕ
turned_word For w = spelling_of lexeme.KeyDownto
turned_word _ w = w

-- the class of a further element of a list without separators, where one begins at the symbol
abbrev pub again : Kind → Option Lexeme → Option Class
again Consts (Some lexeme.Identifier) = Some class.Constdef
again Consts (Some (lexeme.Hole sort.ConstDef)) = Some class.Constdef
again Consts (Some (lexeme.Hole sort.Name)) = Some class.Constdef
again Types (Some lexeme.Identifier) = Some class.Typedef
again Types (Some (lexeme.Hole sort.TypeDef)) = Some class.Typedef
again Types (Some (lexeme.Hole sort.Name)) = Some class.Typedef
again Vars (Some lexeme.Identifier) = Some class.Vardef
again Vars (Some (lexeme.Hole sort.VarDef)) = Some class.Vardef
again Vars (Some (lexeme.Hole sort.Name)) = Some class.Vardef
again Routines (Some lexeme.KeyProcedure) = Some class.Routine
again Routines (Some lexeme.KeyFunction) = Some class.Routine
again Routines (Some (lexeme.Hole sort.Routine)) = Some class.Routine
again _ _ = None
