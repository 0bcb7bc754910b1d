-- Tests over all kinds, classes and next symbols, which are decided by computation.
use Rattle.std.proofs.Common.{◌≡◌, ℕ, zero, suc, Bool, true, false, ◌&&◌, List, [], ◌∷◌, Option, Some, None, refl, ap, sym, ◌∙◌}
use Rattle.pc_syntax.specs.declared.sort.Sort.TheVariants as sort
use Rattle.pc_syntax.specs.declared.kind.Kind.{Kind}
use Rattle.pc_syntax.specs.declared.kind.Kind.TheVariants as kind
use Rattle.pc_syntax.specs.declared.class.Class.{Class}
use Rattle.pc_syntax.specs.declared.class.Class.TheVariants as class
use Rattle.pc_syntax.specs.declared.lexeme.Lexeme.{Lexeme}
use Rattle.pc_syntax.specs.declared.lexeme.Lexeme.TheVariants as lexeme

abbrev pub each : {A : Type 0} → (A → Bool) → List A → Bool
each p [] = true
each p (x ∷ xs) = p x && each p xs

abbrev pub implies : Bool → Bool → Bool
implies true b = b
implies false b = true

pub implies_true : (a b : Bool) → implies a b ≡ true → a ≡ true → b ≡ true
implies_true true b h e = h
implies_true false b h e = cc

pub &&_split : (a b : Bool) → a && b ≡ true → (a ≡ true) × (b ≡ true)
&&_split true b h = (refl, h)
&&_split false b h = cc

pub &&_join : (a b : Bool) → a ≡ true → b ≡ true → a && b ≡ true
&&_join true b h e = e
&&_join false b h e = cc

-- the element at a place
abbrev pub nth : {A : Type 0} → List A → ℕ → Option A
nth [] n = None
nth (x ∷ xs) zero = Some x
nth (x ∷ xs) (suc n) = nth xs n

abbrev pub passes : {A : Type 0} → (A → Bool) → Option A → Bool
passes p None = true
passes p (Some z) = p z

pub each_nth : {A : Type 0} (p : A → Bool) (xs : List A) (n : ℕ) (x : A) → nth xs n ≡ Some x → each p xs ≡ true → p x ≡ true
each_nth p [] n x e h = cc
each_nth p (y ∷ ys) zero x e h = sym (ap (passes p) e) ∙ (&&_split _ _ h).0
each_nth p (y ∷ ys) (suc n) x e h = each_nth p ys n x e (&&_split _ _ h).1

abbrev pub all_kinds : List Kind
all_kinds = kind.Program ∷ kind.Block ∷ kind.Forward ∷ kind.Constdef ∷ kind.Typedef ∷ kind.Vardef ∷ kind.Field ∷ kind.Valparam ∷ kind.Varparam ∷ kind.Procedure ∷ kind.Function ∷ kind.Funbody ∷ kind.Tname ∷ kind.Enum ∷ kind.Subrange ∷ kind.Array ∷ kind.Record ∷ kind.Record0 ∷ kind.Setof ∷ kind.Packed ∷ kind.Pointer ∷ kind.Cnumber ∷ kind.Cstring ∷ kind.Cname ∷ kind.Csign ∷ kind.Empty ∷ kind.Assign ∷ kind.Proc ∷ kind.Compound ∷ kind.If ∷ kind.Ifelse ∷ kind.Case ∷ kind.Arm ∷ kind.Repeat ∷ kind.While ∷ kind.For ∷ kind.With ∷ kind.Ref ∷ kind.Index ∷ kind.Select ∷ kind.Deref ∷ kind.Number ∷ kind.Text ∷ kind.Nil ∷ kind.Call ∷ kind.Parens ∷ kind.Not ∷ kind.Setcon ∷ kind.Mul ∷ kind.Add ∷ kind.Sign ∷ kind.Rel ∷ kind.Width ∷ kind.Span ∷ kind.Name ∷ kind.Heads ∷ kind.Args ∷ kind.Params ∷ kind.Names ∷ kind.Labels ∷ kind.Indexes ∷ kind.Exprs ∷ kind.Accesses ∷ kind.Members ∷ kind.Consts ∷ kind.Types ∷ kind.Vars ∷ kind.Routines ∷ kind.Fields ∷ kind.Stmts ∷ kind.Arms ∷ kind.Hole sort.Program ∷ kind.Hole sort.Block ∷ kind.Hole sort.ConstDef ∷ kind.Hole sort.TypeDef ∷ kind.Hole sort.VarDef ∷ kind.Hole sort.Routine ∷ kind.Hole sort.Parameter ∷ kind.Hole sort.Denoter ∷ kind.Hole sort.Field ∷ kind.Hole sort.Constant ∷ kind.Hole sort.Statement ∷ kind.Hole sort.Arm ∷ kind.Hole sort.Expression ∷ kind.Hole sort.Name ∷ []

abbrev pub all_classes : List Class
all_classes = class.Program ∷ class.Block ∷ class.Constdef ∷ class.Typedef ∷ class.Vardef ∷ class.Routine ∷ class.Parameter ∷ class.Denoter ∷ class.Structured ∷ class.Ordinal ∷ class.Field ∷ class.Constant ∷ class.Bare ∷ class.Statement ∷ class.Body ∷ class.Arm ∷ class.Argument ∷ class.Member ∷ class.Expression ∷ class.Simple ∷ class.Term ∷ class.Factor ∷ class.Access ∷ class.Name ∷ class.Heads ∷ class.Args ∷ class.Params ∷ class.Names ∷ class.Labels ∷ class.Indexes ∷ class.Exprs ∷ class.Accesses ∷ class.Members ∷ class.Consts ∷ class.Types ∷ class.Vars ∷ class.Routines ∷ class.Fields ∷ class.Stmts ∷ class.Arms ∷ class.Operand ∷ []

abbrev pub all_lookaheads : List (Option Lexeme)
all_lookaheads = None ∷ Some lexeme.KeyAnd ∷ Some lexeme.KeyArray ∷ Some lexeme.KeyBegin ∷ Some lexeme.KeyCase ∷ Some lexeme.KeyConst ∷ Some lexeme.KeyDiv ∷ Some lexeme.KeyDo ∷ Some lexeme.KeyDownto ∷ Some lexeme.KeyElse ∷ Some lexeme.KeyEnd ∷ Some lexeme.KeyFile ∷ Some lexeme.KeyFor ∷ Some lexeme.KeyFunction ∷ Some lexeme.KeyGoto ∷ Some lexeme.KeyIf ∷ Some lexeme.KeyIn ∷ Some lexeme.KeyLabel ∷ Some lexeme.KeyMod ∷ Some lexeme.KeyNil ∷ Some lexeme.KeyNot ∷ Some lexeme.KeyOf ∷ Some lexeme.KeyOr ∷ Some lexeme.KeyPacked ∷ Some lexeme.KeyProcedure ∷ Some lexeme.KeyProgram ∷ Some lexeme.KeyRecord ∷ Some lexeme.KeyRepeat ∷ Some lexeme.KeySet ∷ Some lexeme.KeyThen ∷ Some lexeme.KeyTo ∷ Some lexeme.KeyType ∷ Some lexeme.KeyUntil ∷ Some lexeme.KeyVar ∷ Some lexeme.KeyWhile ∷ Some lexeme.KeyWith ∷ Some lexeme.Plus ∷ Some lexeme.Minus ∷ Some lexeme.Star ∷ Some lexeme.Slash ∷ Some lexeme.Equal ∷ Some lexeme.Less ∷ Some lexeme.Greater ∷ Some lexeme.OpenBracket ∷ Some lexeme.CloseBracket ∷ Some lexeme.Dot ∷ Some lexeme.Comma ∷ Some lexeme.Colon ∷ Some lexeme.Semicolon ∷ Some lexeme.Caret ∷ Some lexeme.OpenParen ∷ Some lexeme.CloseParen ∷ Some lexeme.Unequal ∷ Some lexeme.AtMost ∷ Some lexeme.AtLeast ∷ Some lexeme.Becomes ∷ Some lexeme.DotDot ∷ Some lexeme.Identifier ∷ Some lexeme.Numeral ∷ Some lexeme.Text ∷ Some (lexeme.Hole sort.Program) ∷ Some (lexeme.Hole sort.Block) ∷ Some (lexeme.Hole sort.ConstDef) ∷ Some (lexeme.Hole sort.TypeDef) ∷ Some (lexeme.Hole sort.VarDef) ∷ Some (lexeme.Hole sort.Routine) ∷ Some (lexeme.Hole sort.Parameter) ∷ Some (lexeme.Hole sort.Denoter) ∷ Some (lexeme.Hole sort.Field) ∷ Some (lexeme.Hole sort.Constant) ∷ Some (lexeme.Hole sort.Statement) ∷ Some (lexeme.Hole sort.Arm) ∷ Some (lexeme.Hole sort.Expression) ∷ Some (lexeme.Hole sort.Name) ∷ []

abbrev pub kind_place : Kind → ℕ
kind_place kind.Program = 0
kind_place kind.Block = 1
kind_place kind.Forward = 2
kind_place kind.Constdef = 3
kind_place kind.Typedef = 4
kind_place kind.Vardef = 5
kind_place kind.Field = 6
kind_place kind.Valparam = 7
kind_place kind.Varparam = 8
kind_place kind.Procedure = 9
kind_place kind.Function = 10
kind_place kind.Funbody = 11
kind_place kind.Tname = 12
kind_place kind.Enum = 13
kind_place kind.Subrange = 14
kind_place kind.Array = 15
kind_place kind.Record = 16
kind_place kind.Record0 = 17
kind_place kind.Setof = 18
kind_place kind.Packed = 19
kind_place kind.Pointer = 20
kind_place kind.Cnumber = 21
kind_place kind.Cstring = 22
kind_place kind.Cname = 23
kind_place kind.Csign = 24
kind_place kind.Empty = 25
kind_place kind.Assign = 26
kind_place kind.Proc = 27
kind_place kind.Compound = 28
kind_place kind.If = 29
kind_place kind.Ifelse = 30
kind_place kind.Case = 31
kind_place kind.Arm = 32
kind_place kind.Repeat = 33
kind_place kind.While = 34
kind_place kind.For = 35
kind_place kind.With = 36
kind_place kind.Ref = 37
kind_place kind.Index = 38
kind_place kind.Select = 39
kind_place kind.Deref = 40
kind_place kind.Number = 41
kind_place kind.Text = 42
kind_place kind.Nil = 43
kind_place kind.Call = 44
kind_place kind.Parens = 45
kind_place kind.Not = 46
kind_place kind.Setcon = 47
kind_place kind.Mul = 48
kind_place kind.Add = 49
kind_place kind.Sign = 50
kind_place kind.Rel = 51
kind_place kind.Width = 52
kind_place kind.Span = 53
kind_place kind.Name = 54
kind_place kind.Heads = 55
kind_place kind.Args = 56
kind_place kind.Params = 57
kind_place kind.Names = 58
kind_place kind.Labels = 59
kind_place kind.Indexes = 60
kind_place kind.Exprs = 61
kind_place kind.Accesses = 62
kind_place kind.Members = 63
kind_place kind.Consts = 64
kind_place kind.Types = 65
kind_place kind.Vars = 66
kind_place kind.Routines = 67
kind_place kind.Fields = 68
kind_place kind.Stmts = 69
kind_place kind.Arms = 70
kind_place (kind.Hole sort.Program) = 71
kind_place (kind.Hole sort.Block) = 72
kind_place (kind.Hole sort.ConstDef) = 73
kind_place (kind.Hole sort.TypeDef) = 74
kind_place (kind.Hole sort.VarDef) = 75
kind_place (kind.Hole sort.Routine) = 76
kind_place (kind.Hole sort.Parameter) = 77
kind_place (kind.Hole sort.Denoter) = 78
kind_place (kind.Hole sort.Field) = 79
kind_place (kind.Hole sort.Constant) = 80
kind_place (kind.Hole sort.Statement) = 81
kind_place (kind.Hole sort.Arm) = 82
kind_place (kind.Hole sort.Expression) = 83
kind_place (kind.Hole sort.Name) = 84

pub kind_nth : (k : Kind) → nth all_kinds (kind_place k) ≡ Some k
kind_nth kind.Program = refl
kind_nth (kind.Hole sort.Program) = refl
kind_nth (kind.Hole _) = refl
kind_nth _ = refl

pub at_kind : (p : Kind → Bool) (k : Kind) → each p all_kinds ≡ true → p k ≡ true
at_kind p k h = each_nth p all_kinds (kind_place k) k (kind_nth k) h

abbrev pub class_place : Class → ℕ
class_place class.Program = 0
class_place class.Block = 1
class_place class.Constdef = 2
class_place class.Typedef = 3
class_place class.Vardef = 4
class_place class.Routine = 5
class_place class.Parameter = 6
class_place class.Denoter = 7
class_place class.Structured = 8
class_place class.Ordinal = 9
class_place class.Field = 10
class_place class.Constant = 11
class_place class.Bare = 12
class_place class.Statement = 13
class_place class.Body = 14
class_place class.Arm = 15
class_place class.Argument = 16
class_place class.Member = 17
class_place class.Expression = 18
class_place class.Simple = 19
class_place class.Term = 20
class_place class.Factor = 21
class_place class.Access = 22
class_place class.Name = 23
class_place class.Heads = 24
class_place class.Args = 25
class_place class.Params = 26
class_place class.Names = 27
class_place class.Labels = 28
class_place class.Indexes = 29
class_place class.Exprs = 30
class_place class.Accesses = 31
class_place class.Members = 32
class_place class.Consts = 33
class_place class.Types = 34
class_place class.Vars = 35
class_place class.Routines = 36
class_place class.Fields = 37
class_place class.Stmts = 38
class_place class.Arms = 39
class_place class.Operand = 40

pub class_nth : (c : Class) → nth all_classes (class_place c) ≡ Some c
class_nth class.Program = refl
class_nth _ = refl

pub at_class : (p : Class → Bool) (c : Class) → each p all_classes ≡ true → p c ≡ true
at_class p c h = each_nth p all_classes (class_place c) c (class_nth c) h

abbrev pub lookahead_place : Option Lexeme → ℕ
lookahead_place None = 0
lookahead_place (Some lexeme.KeyAnd) = 1
lookahead_place (Some lexeme.KeyArray) = 2
lookahead_place (Some lexeme.KeyBegin) = 3
lookahead_place (Some lexeme.KeyCase) = 4
lookahead_place (Some lexeme.KeyConst) = 5
lookahead_place (Some lexeme.KeyDiv) = 6
lookahead_place (Some lexeme.KeyDo) = 7
lookahead_place (Some lexeme.KeyDownto) = 8
lookahead_place (Some lexeme.KeyElse) = 9
lookahead_place (Some lexeme.KeyEnd) = 10
lookahead_place (Some lexeme.KeyFile) = 11
lookahead_place (Some lexeme.KeyFor) = 12
lookahead_place (Some lexeme.KeyFunction) = 13
lookahead_place (Some lexeme.KeyGoto) = 14
lookahead_place (Some lexeme.KeyIf) = 15
lookahead_place (Some lexeme.KeyIn) = 16
lookahead_place (Some lexeme.KeyLabel) = 17
lookahead_place (Some lexeme.KeyMod) = 18
lookahead_place (Some lexeme.KeyNil) = 19
lookahead_place (Some lexeme.KeyNot) = 20
lookahead_place (Some lexeme.KeyOf) = 21
lookahead_place (Some lexeme.KeyOr) = 22
lookahead_place (Some lexeme.KeyPacked) = 23
lookahead_place (Some lexeme.KeyProcedure) = 24
lookahead_place (Some lexeme.KeyProgram) = 25
lookahead_place (Some lexeme.KeyRecord) = 26
lookahead_place (Some lexeme.KeyRepeat) = 27
lookahead_place (Some lexeme.KeySet) = 28
lookahead_place (Some lexeme.KeyThen) = 29
lookahead_place (Some lexeme.KeyTo) = 30
lookahead_place (Some lexeme.KeyType) = 31
lookahead_place (Some lexeme.KeyUntil) = 32
lookahead_place (Some lexeme.KeyVar) = 33
lookahead_place (Some lexeme.KeyWhile) = 34
lookahead_place (Some lexeme.KeyWith) = 35
lookahead_place (Some lexeme.Plus) = 36
lookahead_place (Some lexeme.Minus) = 37
lookahead_place (Some lexeme.Star) = 38
lookahead_place (Some lexeme.Slash) = 39
lookahead_place (Some lexeme.Equal) = 40
lookahead_place (Some lexeme.Less) = 41
lookahead_place (Some lexeme.Greater) = 42
lookahead_place (Some lexeme.OpenBracket) = 43
lookahead_place (Some lexeme.CloseBracket) = 44
lookahead_place (Some lexeme.Dot) = 45
lookahead_place (Some lexeme.Comma) = 46
lookahead_place (Some lexeme.Colon) = 47
lookahead_place (Some lexeme.Semicolon) = 48
lookahead_place (Some lexeme.Caret) = 49
lookahead_place (Some lexeme.OpenParen) = 50
lookahead_place (Some lexeme.CloseParen) = 51
lookahead_place (Some lexeme.Unequal) = 52
lookahead_place (Some lexeme.AtMost) = 53
lookahead_place (Some lexeme.AtLeast) = 54
lookahead_place (Some lexeme.Becomes) = 55
lookahead_place (Some lexeme.DotDot) = 56
lookahead_place (Some lexeme.Identifier) = 57
lookahead_place (Some lexeme.Numeral) = 58
lookahead_place (Some lexeme.Text) = 59
lookahead_place (Some (lexeme.Hole sort.Program)) = 60
lookahead_place (Some (lexeme.Hole sort.Block)) = 61
lookahead_place (Some (lexeme.Hole sort.ConstDef)) = 62
lookahead_place (Some (lexeme.Hole sort.TypeDef)) = 63
lookahead_place (Some (lexeme.Hole sort.VarDef)) = 64
lookahead_place (Some (lexeme.Hole sort.Routine)) = 65
lookahead_place (Some (lexeme.Hole sort.Parameter)) = 66
lookahead_place (Some (lexeme.Hole sort.Denoter)) = 67
lookahead_place (Some (lexeme.Hole sort.Field)) = 68
lookahead_place (Some (lexeme.Hole sort.Constant)) = 69
lookahead_place (Some (lexeme.Hole sort.Statement)) = 70
lookahead_place (Some (lexeme.Hole sort.Arm)) = 71
lookahead_place (Some (lexeme.Hole sort.Expression)) = 72
lookahead_place (Some (lexeme.Hole sort.Name)) = 73

pub lookahead_nth : (x : Option Lexeme) → nth all_lookaheads (lookahead_place x) ≡ Some x
lookahead_nth None = refl
lookahead_nth (Some lexeme.KeyAnd) = refl
lookahead_nth (Some (lexeme.Hole sort.Program)) = refl
lookahead_nth (Some (lexeme.Hole _)) = refl
lookahead_nth (Some _) = refl

pub at_lookahead : (p : Option Lexeme → Bool) (x : Option Lexeme) → each p all_lookaheads ≡ true → p x ≡ true
at_lookahead p x h = each_nth p all_lookaheads (lookahead_place x) x (lookahead_nth x) h
