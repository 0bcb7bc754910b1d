-- No node of a statement part declares anything.
use Rattle.std.proofs.Common.{◌≡◌, ℕ, List, [], ◌∷◌, Bool, true, false, refl, ap, ◌∙◌, if◌then◌else◌}
use Rattle.pc_syntax.specs.Plain.{Plain}
use Rattle.pc_syntax.specs.declared.kind.Kind.{Kind}
use Rattle.pc_syntax.specs.declared.kind.Kind.TheVariants as kind
use Rattle.pc_rules.specs.Meanings.{Local, Outside}
use Rattle.pc_rules.specs.Attributes.{Attributes, Marked, Node, nodes, missing}
use Rattle.pc_scope.specs.Required.{is_required_function, is_required_procedure}
use Rattle.pc_rules.specs.Arguments.{declared_procedure, declared_call}
use Rattle.pc_rules.specs.Variables.{is_end_test}
use Rattle.pc_rules.specs.RequiredProcedures.{required_procedure, procedure_by}
use Rattle.pc_rules.specs.RequiredFunctions.{required_call, end_test, function_of_one, call_by}
use Rattle.pc_rules.specs.Meanings.{Found, Here, Later, Component, Required, Missing}
use Rattle.std.specs.Prelude.{codes, get_or}
use Rattle.std.specs.Str.{bytes_eq}
use Rattle.pc_rules.specs.Decorated.{Seen, seen, rule}
use Rattle.pc_environment.specs.Sight.{is_body}
use Rattle.pc_environment.specs.Decorating.{attributes_at, below_at}
use Rattle.pc_environment.specs.DecoratingLaws.{at-node}

-- one of two
either-defines : (b : Bool) (x y : Attributes) → x.defines ≡ [] → y.defines ≡ [] → (if b then x else y).defines ≡ []
either-defines true x y e f = e
either-defines false x y e f = f

required-defines : (n : List ℕ) (name args : Node) → (required_procedure n name args).defines ≡ []
required-defines n name args =
    either-defines (bytes_eq n (codes "read")) _ _ refl
    (either-defines (bytes_eq n (codes "readln")) _ _ refl
    (either-defines (bytes_eq n (codes "write")) _ _ refl
    (either-defines (bytes_eq n (codes "writeln")) _ _ refl
    (either-defines (bytes_eq n (codes "new")) _ _ refl refl))))

procedure-defines : (f : Found) (name args : Node) → (procedure_by f name args).defines ≡ []
procedure-defines (Required n) name args = either-defines (is_required_procedure n) (required_procedure n name args) (declared_procedure name args) (required-defines n name args) refl
procedure-defines (Here m) name args = refl
procedure-defines (Later c) name args = refl
procedure-defines (Component t p) name args = refl
procedure-defines Missing name args = refl

call-defines : (f : Found) (name args : Node) → (call_by f name args).defines ≡ []
call-defines (Required n) name args =
    either-defines (is_required_function n) (required_call n name args) (declared_call name args) (either-defines (is_end_test n) (end_test name args) (function_of_one n name args) refl refl) refl
call-defines (Here m) name args = refl
call-defines (Later c) name args = refl
call-defines (Component t p) name args = refl
call-defines Missing name args = refl

-- a node of a statement part
pub rule-defines : (l : Local) (k : Kind) (w : List ℕ) (s : Seen) (m : Marked) → is_body k ≡ true → (rule l k w s m).defines ≡ []
unfolding rule
rule-defines l kind.Cnumber w s m e = refl
rule-defines l kind.Cstring w s m e = refl
rule-defines l kind.Cname w s m e = refl
rule-defines l kind.Csign w s m e = refl
rule-defines l kind.Empty w s m e = refl
rule-defines l kind.Assign w s m e = refl
rule-defines l kind.Proc w s m e = procedure-defines (get_or (nodes m) 0 missing).found (get_or (nodes m) 0 missing) (get_or (nodes m) 1 missing)
rule-defines l kind.Compound w s m e = refl
rule-defines l kind.If w s m e = refl
rule-defines l kind.Ifelse w s m e = refl
rule-defines l kind.Case w s m e = refl
rule-defines l kind.Arm w s m e = refl
rule-defines l kind.Repeat w s m e = refl
rule-defines l kind.While w s m e = refl
rule-defines l kind.For w s m e = refl
rule-defines l kind.With w s m e = refl
rule-defines l kind.Ref w s m e = refl
rule-defines l kind.Index w s m e = refl
rule-defines l kind.Select w s m e = refl
rule-defines l kind.Deref w s m e = refl
rule-defines l kind.Number w s m e = refl
rule-defines l kind.Text w s m e = refl
rule-defines l kind.Nil w s m e = refl
rule-defines l kind.Call w s m e = call-defines (get_or (nodes m) 0 missing).found (get_or (nodes m) 0 missing) (get_or (nodes m) 1 missing)
rule-defines l kind.Parens w s m e = refl
rule-defines l kind.Not w s m e = refl
rule-defines l kind.Setcon w s m e = refl
rule-defines l kind.Mul w s m e = refl
rule-defines l kind.Add w s m e = refl
rule-defines l kind.Sign w s m e = refl
rule-defines l kind.Rel w s m e = refl
rule-defines l kind.Width w s m e = refl
rule-defines l kind.Span w s m e = refl
rule-defines l kind.Name w s m e = refl
rule-defines l kind.Args w s m e = refl
rule-defines l kind.Labels w s m e = refl
rule-defines l kind.Exprs w s m e = refl
rule-defines l kind.Accesses w s m e = refl
rule-defines l kind.Members w s m e = refl
rule-defines l kind.Stmts w s m e = refl
rule-defines l kind.Arms w s m e = refl
rule-defines l (kind.Hole x) w s m e = refl
rule-defines l k w s m e = cc

-- what a node of a statement part declares: nothing
pub body-defines : (out : Outside) (l : Local) (t : Plain) → is_body t.kind ≡ true → (attributes_at out l t).defines ≡ []
body-defines out l t e = ap (λ (a : Attributes). a.defines) (at-node out l t) ∙ rule-defines l t.kind t.word (seen out l t.kind t.word) (below_at out l t) e
