-- Which kinds may stand finished where a class is awaited, and which symbols may follow one.
use Rattle.std.proofs.Common.{◌≡◌, Bool, true, false, not, ◌&&◌, ◌||◌, if◌then◌else◌, Option, Some, None, refl}
use Rattle.pc_syntax.specs.declared.lexeme.Lexeme.{Lexeme}
use Rattle.pc_syntax.specs.declared.lexeme.Lexeme.TheVariants as lexeme
use Rattle.pc_syntax.specs.declared.kind.Kind.{Kind}
use Rattle.pc_syntax.specs.declared.kind.Kind.TheVariants as kind
use Rattle.pc_syntax.specs.declared.sort.Sort.TheVariants as sort
use Rattle.pc_syntax.specs.declared.class.Class.{Class}
use Rattle.pc_syntax.specs.declared.class.Class.TheVariants as class
use Rattle.pc_syntax.specs.Classes.{has}
use Rattle.pc_syntax.specs.WellFormed.{opens}
use Rattle.pc_parse.specs.Lookahead.{same_at}
use Rattle.pc_parse.specs.Tables.{Grow, Give, Wrap, Shift, Enter, grow, multiplies, adds, relates}
use Rattle.pc_parse.proofs.Entries.{each, implies, implies_true, &&_split, all_kinds, all_classes, all_lookaheads, at_kind, at_class, at_lookahead}

-- the kinds of nodes that are read: every kind
abbrev pub known : Kind → Bool
known k = true

-- the classes whose kids the machine reads
abbrev pub knows : Class → Bool
knows class.Program = true
knows class.Block = true
knows class.Vardef = true
knows class.Denoter = true
knows class.Statement = true
knows class.Body = true
knows class.Argument = true
knows class.Member = true
knows class.Operand = true
knows class.Expression = true
knows class.Simple = true
knows class.Term = true
knows class.Factor = true
knows class.Access = true
knows class.Name = true
knows class.Heads = true
knows class.Args = true
knows class.Params = true
knows class.Names = true
knows class.Exprs = true
knows class.Accesses = true
knows class.Members = true
knows class.Consts = true
knows class.Types = true
knows class.Vars = true
knows class.Routines = true
knows class.Stmts = true
knows class.Constdef = true
knows class.Typedef = true
knows class.Routine = true
knows class.Parameter = true
knows class.Field = true
knows class.Constant = true
knows class.Bare = true
knows class.Structured = true
knows class.Ordinal = true
knows class.Indexes = true
knows class.Arm = true
knows class.Labels = true
knows class.Fields = true
knows class.Arms = true

-- the kinds that are held first where a node of another kind is awaited
abbrev pub precedes : Class → Kind → Bool
precedes class.Denoter kind.Name = true
precedes class.Statement kind.Name = true
precedes class.Statement kind.Ref = true
precedes class.Statement kind.Index = true
precedes class.Statement kind.Select = true
precedes class.Statement kind.Deref = true
precedes class.Argument kind.Name = true
precedes class.Member kind.Name = true
precedes class.Operand kind.Name = true
precedes class.Expression kind.Name = true
precedes class.Simple kind.Name = true
precedes class.Term kind.Name = true
precedes class.Factor kind.Name = true
precedes class.Access kind.Name = true
precedes class.Denoter (kind.Hole sort.Name) = true
precedes class.Statement (kind.Hole sort.Name) = true
precedes class.Argument (kind.Hole sort.Name) = true
precedes class.Member (kind.Hole sort.Name) = true
precedes class.Operand (kind.Hole sort.Name) = true
precedes class.Expression (kind.Hole sort.Name) = true
precedes class.Simple (kind.Hole sort.Name) = true
precedes class.Term (kind.Hole sort.Name) = true
precedes class.Factor (kind.Hole sort.Name) = true
precedes class.Access (kind.Hole sort.Name) = true
precedes class.Statement (kind.Hole sort.Expression) = true
precedes class.Constdef kind.Name = true
precedes class.Constdef (kind.Hole sort.Name) = true
precedes class.Constant kind.Name = true
precedes class.Constant (kind.Hole sort.Name) = true
precedes class.Bare kind.Name = true
precedes class.Bare (kind.Hole sort.Name) = true
precedes class.Typedef kind.Name = true
precedes class.Typedef (kind.Hole sort.Name) = true
precedes class.Ordinal kind.Name = true
precedes class.Ordinal (kind.Hole sort.Name) = true
precedes class.Denoter kind.Cnumber = true
precedes class.Denoter kind.Cstring = true
precedes class.Denoter kind.Cname = true
precedes class.Denoter kind.Csign = true
precedes class.Denoter (kind.Hole sort.Constant) = true
precedes class.Ordinal kind.Cnumber = true
precedes class.Ordinal kind.Cstring = true
precedes class.Ordinal kind.Cname = true
precedes class.Ordinal kind.Csign = true
precedes class.Ordinal (kind.Hole sort.Constant) = true
precedes _ _ = false

-- the kinds that can stand finished where a node of the class is awaited
abbrev pub corner : Class → Kind → Bool
corner c k = precedes c k || (knows c && has c k)

abbrev pub ends_statement : Option Lexeme → Bool
ends_statement None = true
ends_statement (Some lexeme.Semicolon) = true
ends_statement (Some lexeme.KeyEnd) = true
ends_statement (Some lexeme.KeyElse) = true
ends_statement (Some lexeme.KeyUntil) = true
ends_statement _ = false

abbrev pub ends_argument : Option Lexeme → Bool
ends_argument (Some lexeme.Comma) = true
ends_argument (Some lexeme.CloseParen) = true
ends_argument _ = false

-- an expression by itself ends with the symbols
abbrev pub ends_operand : Option Lexeme → Bool
ends_operand None = true
ends_operand _ = false

abbrev pub ends_expression : Option Lexeme → Bool
ends_expression (Some lexeme.KeyThen) = true
ends_expression (Some lexeme.KeyDo) = true
ends_expression (Some lexeme.KeyOf) = true
ends_expression (Some lexeme.KeyTo) = true
ends_expression (Some lexeme.KeyDownto) = true
ends_expression (Some lexeme.CloseParen) = true
ends_expression (Some lexeme.CloseBracket) = true
ends_expression (Some lexeme.Comma) = true
ends_expression (Some lexeme.Colon) = true
ends_expression (Some lexeme.DotDot) = true
ends_expression x = ends_statement x

abbrev pub ends_term : Option Lexeme → Bool
ends_term x = adds x || relates x || ends_expression x

abbrev pub ends_factor : Option Lexeme → Bool
ends_factor x = multiplies x || ends_term x

abbrev pub ends_names : Option Lexeme → Bool
ends_names (Some lexeme.Colon) = true
ends_names (Some lexeme.CloseParen) = true
ends_names _ = false

abbrev pub ends_exprs : Option Lexeme → Bool
ends_exprs (Some lexeme.CloseParen) = true
ends_exprs (Some lexeme.CloseBracket) = true
ends_exprs _ = false

abbrev pub ends_access : Option Lexeme → Bool
ends_access (Some lexeme.Comma) = true
ends_access (Some lexeme.KeyDo) = true
ends_access _ = false

abbrev pub ends_accesses : Option Lexeme → Bool
ends_accesses x = same_at lexeme.KeyDo x

abbrev pub ends_member : Option Lexeme → Bool
ends_member (Some lexeme.Comma) = true
ends_member (Some lexeme.CloseBracket) = true
ends_member _ = false

abbrev pub ends_members : Option Lexeme → Bool
ends_members x = same_at lexeme.CloseBracket x

abbrev pub ends_heads : Option Lexeme → Bool
ends_heads x = same_at lexeme.Semicolon x

abbrev pub ends_params : Option Lexeme → Bool
ends_params (Some lexeme.Semicolon) = true
ends_params (Some lexeme.Colon) = true
ends_params _ = false

abbrev pub ends_routines : Option Lexeme → Bool
ends_routines (Some lexeme.KeyBegin) = true
ends_routines (Some (lexeme.Hole sort.Statement)) = true
ends_routines _ = false

abbrev pub ends_vars : Option Lexeme → Bool
ends_vars (Some lexeme.KeyProcedure) = true
ends_vars (Some lexeme.KeyFunction) = true
ends_vars (Some (lexeme.Hole sort.Routine)) = true
ends_vars x = ends_routines x

abbrev pub ends_types : Option Lexeme → Bool
ends_types (Some lexeme.KeyVar) = true
ends_types x = ends_vars x

abbrev pub ends_consts : Option Lexeme → Bool
ends_consts (Some lexeme.KeyType) = true
ends_consts x = ends_types x

abbrev pub ends_denoter : Option Lexeme → Bool
ends_denoter None = true
ends_denoter (Some lexeme.Semicolon) = true
ends_denoter (Some lexeme.KeyEnd) = true
ends_denoter _ = false

abbrev pub ends_labels : Option Lexeme → Bool
ends_labels x = same_at lexeme.Colon x

-- what ends an arm or a field
abbrev pub ends_part : Option Lexeme → Bool
ends_part None = true
ends_part (Some lexeme.Semicolon) = true
ends_part (Some lexeme.KeyEnd) = true
ends_part _ = false

abbrev pub ends_parts : Option Lexeme → Bool
ends_parts x = same_at lexeme.KeyEnd x

abbrev pub ends_ordinal : Option Lexeme → Bool
ends_ordinal (Some lexeme.Comma) = true
ends_ordinal (Some lexeme.CloseBracket) = true
ends_ordinal x = ends_denoter x

abbrev pub ends_indexes : Option Lexeme → Bool
ends_indexes x = same_at lexeme.CloseBracket x

abbrev pub ends_stmts : Option Lexeme → Bool
ends_stmts (Some lexeme.KeyEnd) = true
ends_stmts (Some lexeme.KeyUntil) = true
ends_stmts _ = false

-- the symbols that may follow a kid of the class
abbrev pub follow : Class → Option Lexeme → Bool
follow class.Access x = ends_access x
follow class.Factor x = ends_factor x
follow class.Term x = ends_term x
follow class.Simple x = ends_expression x
follow class.Expression x = ends_expression x
follow class.Argument x = ends_argument x
follow class.Member x = ends_member x
follow class.Operand x = ends_operand x
follow class.Statement x = ends_statement x
follow class.Heads x = ends_heads x
follow class.Args x = ends_statement x
follow class.Params x = ends_params x
follow class.Names x = ends_names x
follow class.Exprs x = ends_exprs x
follow class.Accesses x = ends_accesses x
follow class.Members x = ends_members x
follow class.Denoter x = ends_denoter x
follow class.Structured x = ends_denoter x
follow class.Ordinal x = ends_ordinal x
follow class.Indexes x = ends_indexes x
follow class.Labels x = ends_labels x
follow class.Arm x = ends_part x
follow class.Arms x = ends_parts x
follow class.Field x = ends_part x
follow class.Fields x = ends_parts x
follow class.Types x = ends_types x
follow class.Consts x = ends_consts x
follow class.Vars x = ends_vars x
follow class.Routines x = ends_routines x
follow class.Stmts x = ends_stmts x
follow c x = knows c

abbrev pub is_place : Option Lexeme → Bool
is_place (Some lexeme.Becomes) = true
is_place (Some lexeme.OpenBracket) = true
is_place (Some lexeme.Dot) = true
is_place (Some lexeme.Caret) = true
is_place _ = false

abbrev pub ref_tail : Class → Option Lexeme → Bool
ref_tail class.Statement x = is_place x
ref_tail c x = not (same_at lexeme.OpenParen x)

abbrev pub is_bound : Class → Bool
is_bound class.Denoter = true
is_bound class.Ordinal = true
is_bound _ = false

-- the symbols that may follow a node of the kind where a node of the class is awaited
abbrev pub tail : Class → Kind → Option Lexeme → Bool
tail c kind.Empty x = ends_statement x
tail c kind.Assign x = ends_expression x
tail c kind.Proc x = ends_statement x
tail c kind.If x = ends_statement x
tail c kind.Ifelse x = ends_statement x
tail c kind.Repeat x = ends_expression x
tail c kind.While x = ends_statement x
tail c kind.For x = ends_statement x
tail c kind.With x = ends_statement x
tail c kind.Ref x = ref_tail c x
tail c kind.Not x = ends_factor x
tail c kind.Mul x = ends_factor x
tail c kind.Add x = ends_term x
tail c kind.Sign x = ends_term x
tail c kind.Rel x = ends_expression x
tail c kind.Width x = ends_expression x
tail c kind.Span x = ends_expression x
tail c kind.Heads x = ends_heads x
tail c kind.Args x = ends_statement x
tail c kind.Params x = ends_params x
tail c kind.Names x = ends_names x
tail c kind.Exprs x = ends_exprs x
tail c kind.Accesses x = ends_accesses x
tail c kind.Members x = ends_members x
tail c kind.Tname x = not (same_at lexeme.DotDot x)
tail c kind.Cname x = if is_bound c then same_at lexeme.DotDot x else true
tail c kind.Array x = ends_denoter x
tail c kind.Setof x = ends_ordinal x
tail c kind.Packed x = ends_denoter x
tail c kind.Indexes x = ends_indexes x
tail c kind.Labels x = ends_labels x
tail c kind.Arm x = ends_part x
tail c kind.Arms x = ends_parts x
tail c kind.Field x = ends_part x
tail c kind.Fields x = ends_parts x
tail c kind.Types x = ends_types x
tail c kind.Consts x = ends_consts x
tail c kind.Vars x = ends_vars x
tail c kind.Routines x = ends_routines x
tail c kind.Stmts x = ends_stmts x
tail c k x = true

-- classes whose kinds never end open
abbrev pub plain_class : Class → Bool
plain_class class.Statement = false
plain_class c = knows c

-- classes that any symbol may follow
abbrev pub free : Class → Bool
free class.Name = true
free class.Constdef = true
free class.Typedef = true
free class.Routine = true
free class.Vardef = true
free c = false

abbrev pub gives : Grow → Bool
gives Give = true
gives (Wrap k) = false
gives (Shift k w m) = false
gives (Enter k m) = false

-- after a node of the class, each symbol that may follow leaves it alone
abbrev pub settled : Class → Kind → Option Lexeme → Bool
settled c k x = corner c k && tail c k x && gives (grow k c x)

abbrev pub settles : Bool
settles = each (λ c. implies (knows c) (each (λ k. implies (has c k) (each (λ x. implies (follow c x) (settled c k x)) all_lookaheads)) all_kinds)) all_classes

settles_true : settles ≡ true
settles_true = refl

gives_give : (g : Grow) → gives g ≡ true → g ≡ Give
gives_give Give h = refl
gives_give (Wrap k) h = cc
gives_give (Shift k w m) h = cc
gives_give (Enter k m) h = cc

follow_knows : (c : Class) (x : Option Lexeme) → follow c x ≡ true → knows c ≡ true
follow_knows class.Access x h = refl
follow_knows class.Factor x h = refl
follow_knows class.Term x h = refl
follow_knows class.Simple x h = refl
follow_knows class.Expression x h = refl
follow_knows class.Argument x h = refl
follow_knows class.Statement x h = refl
follow_knows class.Heads x h = refl
follow_knows class.Args x h = refl
follow_knows class.Params x h = refl
follow_knows class.Names x h = refl
follow_knows class.Exprs x h = refl
follow_knows class.Accesses x h = refl
follow_knows class.Member x h = refl
follow_knows class.Operand x h = refl
follow_knows class.Members x h = refl
follow_knows class.Denoter x h = refl
follow_knows class.Structured x h = refl
follow_knows class.Ordinal x h = refl
follow_knows class.Indexes x h = refl
follow_knows class.Labels x h = refl
follow_knows class.Arm x h = refl
follow_knows class.Arms x h = refl
follow_knows class.Field x h = refl
follow_knows class.Fields x h = refl
follow_knows class.Types x h = refl
follow_knows class.Consts x h = refl
follow_knows class.Vars x h = refl
follow_knows class.Routines x h = refl
follow_knows class.Stmts x h = refl
follow_knows _ x h = h

settled_at : (c : Class) (k : Kind) (x : Option Lexeme) → has c k ≡ true → follow c x ≡ true → settled c k x ≡ true
settled_at c k x h f =
    let by_class : each (λ j. implies (has c j) (each (λ y. implies (follow c y) (settled c j y)) all_lookaheads)) all_kinds ≡ true =
    implies_true _ _ (at_class (λ b. implies (knows b) (each (λ j. implies (has b j) (each (λ y. implies (follow b y) (settled b j y)) all_lookaheads)) all_kinds)) c settles_true) (follow_knows c x f) in
    let by_kind : each (λ y. implies (follow c y) (settled c k y)) all_lookaheads ≡ true =
    implies_true _ _ (at_kind (λ j. implies (has c j) (each (λ y. implies (follow c y) (settled c j y)) all_lookaheads)) k by_class) h in
    implies_true _ _ (at_lookahead (λ y. implies (follow c y) (settled c k y)) x by_kind) f

pub corner_of : (c : Class) (k : Kind) (x : Option Lexeme) → has c k ≡ true → follow c x ≡ true → corner c k ≡ true
corner_of c k x h f = (&&_split _ _ (&&_split _ _ (settled_at c k x h f)).0).0

pub tail_after : (c : Class) (k : Kind) (x : Option Lexeme) → has c k ≡ true → follow c x ≡ true → tail c k x ≡ true
tail_after c k x h f = (&&_split _ _ (&&_split _ _ (settled_at c k x h f)).0).1

pub give_after : (c : Class) (k : Kind) (x : Option Lexeme) → has c k ≡ true → follow c x ≡ true → grow k c x ≡ Give
give_after c k x h f = gives_give _ (&&_split _ _ (settled_at c k x h f)).1

pub plain_closed : (c : Class) (k : Kind) (last : Bool) → has c k ≡ true → plain_class c ≡ true → opens k last ≡ false
plain_closed c k last h p =
    not_true _ (implies_true _ _ (at_kind (λ j. implies (has c j) (closes j last)) k (implies_true _ _ (at_class (λ b. implies (plain_class b) (each (λ j. implies (has b j) (closes j last)) all_kinds)) c (checked last)) p)) h)
  where
    closes : Kind → Bool → Bool
    closes j l = not (opens j l)

    not_true : (b : Bool) → not b ≡ true → b ≡ false
    not_true true e = cc
    not_true false e = refl

    checked : (l : Bool) → each (λ b. implies (plain_class b) (each (λ j. implies (has b j) (closes j l)) all_kinds)) all_classes ≡ true
    checked true = refl
    checked false = refl

pub free_follow : (c : Class) (x : Option Lexeme) → free c ≡ true → follow c x ≡ true
free_follow c x h = implies_true _ _ (at_class (λ b. implies (free b) (follow b x)) c refl) h
