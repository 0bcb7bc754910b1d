use Rattle.std.proofs.Common.{◌≡◌, true, false, codes, sym, subst}
use Rattle.std.specs.Str.{bytes_eq}
use Rattle.pc_scope.specs.Spelled.{spelling}
use Rattle.pc_syntax.specs.declared.kind.Kind.TheVariants as kind
use Rattle.pc_rules.specs.Attributes.{Attributes}
use Rattle.pc_rules.specs.Decorated.{with_kind}
use Rattle.pc_facts.specs.Shows.{ShowsNode}
use Rattle.pc_call_rules.proofs.RequiredSteps.{stated-write, stated-writeln, stated-new, stated-dispose}
use Rattle.pc_call_rules.proofs.calls.silent_procedure.Goals as goal

pub returns-then-is_named : goal.returns-then-is_named
returns-then-is_named c = λ k w n a call.
    let e : bytes_eq (spelling c.args.builtin) (codes "write") ≡ true = cc in
    subst (λ (x : Attributes). ShowsNode k c.in_ok-output_procedure.field-0 (with_kind kind.Proc w x)) (sym (stated-write (spelling c.args.builtin) n a e)) (c.in_ok-output_procedure.ensures k w n a call)

pub returns-then-is_named-2 : goal.returns-then-is_named-2
returns-then-is_named-2 c = λ k w n a call.
    let e1 : bytes_eq (spelling c.args.builtin) (codes "write") ≡ false = cc in
    let e2 : bytes_eq (spelling c.args.builtin) (codes "writeln") ≡ true = cc in
    subst (λ (x : Attributes). ShowsNode k c.in_ok-output_procedure-2.field-0 (with_kind kind.Proc w x)) (sym (stated-writeln (spelling c.args.builtin) n a e1 e2)) (c.in_ok-output_procedure-2.ensures k w n a call)

pub returns-then-is_named-3 : goal.returns-then-is_named-3
returns-then-is_named-3 c = λ k w n a call.
    let e1 : bytes_eq (spelling c.args.builtin) (codes "write") ≡ false = cc in
    let e2 : bytes_eq (spelling c.args.builtin) (codes "writeln") ≡ false = cc in
    let e3 : bytes_eq (spelling c.args.builtin) (codes "new") ≡ true = cc in
    subst (λ (x : Attributes). ShowsNode k c.in_ok-pointer_procedure.field-0 (with_kind kind.Proc w x)) (sym (stated-new (spelling c.args.builtin) n a e1 e2 e3)) (c.in_ok-pointer_procedure.ensures k w n a call)

pub returns : goal.returns
returns c = λ k w n a call.
    let e1 : bytes_eq (spelling c.args.builtin) (codes "write") ≡ false = cc in
    let e2 : bytes_eq (spelling c.args.builtin) (codes "writeln") ≡ false = cc in
    let e3 : bytes_eq (spelling c.args.builtin) (codes "new") ≡ false = cc in
    subst (λ (x : Attributes). ShowsNode k c.in_ok-pointer_procedure-2.field-0 (with_kind kind.Proc w x)) (sym (stated-dispose (spelling c.args.builtin) n a e1 e2 e3)) (c.in_ok-pointer_procedure-2.ensures k w n a call)
