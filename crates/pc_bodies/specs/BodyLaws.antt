-- Kinds of nodes of a statement part: the kids of such nodes are such nodes.
use Rattle.std.specs.Prelude.{◌≡◌, Bool, true, false}
use Rattle.std.proofs.Common.{refl}
use Rattle.pc_syntax.specs.Classes.{has}
use Rattle.pc_syntax.specs.declared.class.Class.{Class}
use Rattle.pc_syntax.specs.declared.class.Class.TheVariants as class
use Rattle.pc_syntax.specs.declared.kind.Kind.{Kind}
use Rattle.pc_syntax.specs.declared.kind.Kind.TheVariants as kind
use Rattle.pc_environment.specs.Sight.{is_body}

-- the classes whose nodes stand in a statement part alone
abbrev pub is_body_class : Class → Bool
is_body_class class.Constant = true
is_body_class class.Bare = true
is_body_class class.Statement = true
is_body_class class.Body = true
is_body_class class.Arm = true
is_body_class class.Argument = true
is_body_class class.Member = true
is_body_class class.Operand = true
is_body_class class.Expression = true
is_body_class class.Simple = true
is_body_class class.Term = true
is_body_class class.Factor = true
is_body_class class.Access = true
is_body_class class.Name = true
is_body_class class.Args = true
is_body_class class.Labels = true
is_body_class class.Exprs = true
is_body_class class.Accesses = true
is_body_class class.Members = true
is_body_class class.Stmts = true
is_body_class class.Arms = true
is_body_class _ = false

-- a node of such a class is one of a statement part
pub class-body : (c : Class) (k : Kind) → is_body_class c ≡ true → has c k ≡ true → is_body k ≡ true
class-body c kind.Cnumber b e = refl
class-body c kind.Cstring b e = refl
class-body c kind.Cname b e = refl
class-body c kind.Csign b e = refl
class-body c kind.Empty b e = refl
class-body c kind.Assign b e = refl
class-body c kind.Proc b e = refl
class-body c kind.Compound b e = refl
class-body c kind.If b e = refl
class-body c kind.Ifelse b e = refl
class-body c kind.Case b e = refl
class-body c kind.Arm b e = refl
class-body c kind.Repeat b e = refl
class-body c kind.While b e = refl
class-body c kind.For b e = refl
class-body c kind.With b e = refl
class-body c kind.Ref b e = refl
class-body c kind.Index b e = refl
class-body c kind.Select b e = refl
class-body c kind.Deref b e = refl
class-body c kind.Number b e = refl
class-body c kind.Text b e = refl
class-body c kind.Nil b e = refl
class-body c kind.Call b e = refl
class-body c kind.Parens b e = refl
class-body c kind.Not b e = refl
class-body c kind.Setcon b e = refl
class-body c kind.Mul b e = refl
class-body c kind.Add b e = refl
class-body c kind.Sign b e = refl
class-body c kind.Rel b e = refl
class-body c kind.Width b e = refl
class-body c kind.Span b e = refl
class-body c kind.Name b e = refl
class-body c kind.Args b e = refl
class-body c kind.Labels b e = refl
class-body c kind.Exprs b e = refl
class-body c kind.Accesses b e = refl
class-body c kind.Members b e = refl
class-body c kind.Stmts b e = refl
class-body c kind.Arms b e = refl
class-body c (kind.Hole s) b e = refl
class-body class.Constant k b e = cc
class-body class.Bare k b e = cc
class-body class.Statement k b e = cc
class-body class.Body k b e = cc
class-body class.Arm k b e = cc
class-body class.Argument k b e = cc
class-body class.Member k b e = cc
class-body class.Operand k b e = cc
class-body class.Expression k b e = cc
class-body class.Simple k b e = cc
class-body class.Term k b e = cc
class-body class.Factor k b e = cc
class-body class.Access k b e = cc
class-body class.Name k b e = cc
class-body class.Args k b e = cc
class-body class.Labels k b e = cc
class-body class.Exprs k b e = cc
class-body class.Accesses k b e = cc
class-body class.Members k b e = cc
class-body class.Stmts k b e = cc
class-body class.Arms k b e = cc
class-body c k b e = cc
