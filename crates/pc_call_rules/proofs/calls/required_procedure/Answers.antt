use Rattle.std.proofs.Common.{◌≡◌, true, false, codes, sym, subst}
use Rattle.std.specs.Str.{bytes_eq}
use Rattle.pc_scope.specs.Spelled.{spelling}
use Rattle.pc_syntax.specs.declared.kind.Kind.TheVariants as kind
use Rattle.pc_rules.specs.Attributes.{Attributes}
use Rattle.pc_rules.specs.Decorated.{with_kind}
use Rattle.pc_facts.specs.Shows.{ShowsNode}
use Rattle.pc_call_rules.proofs.RequiredSteps.{stated-read, stated-readln, stated-silent}
use Rattle.pc_call_rules.proofs.calls.required_procedure.Goals as goal

pub returns-then-is_named-clause-found : goal.returns-then-is_named-clause-found
returns-then-is_named-clause-found c = λ k w n a call.
    let e : bytes_eq (spelling c.args.builtin) (codes "read") ≡ true = cc in
    subst (λ (x : Attributes). ShowsNode k c.in_ok-input_procedure.field-0 (with_kind kind.Proc w x)) (sym (stated-read (spelling c.args.builtin) n a e)) (c.in_ok-input_procedure.ensures.found k w n a call)

pub returns-then-is_named-2-clause-found : goal.returns-then-is_named-2-clause-found
returns-then-is_named-2-clause-found c = λ k w n a call.
    let e1 : bytes_eq (spelling c.args.builtin) (codes "read") ≡ false = cc in
    let e2 : bytes_eq (spelling c.args.builtin) (codes "readln") ≡ true = cc in
    subst (λ (x : Attributes). ShowsNode k c.in_ok-input_procedure-2.field-0 (with_kind kind.Proc w x)) (sym (stated-readln (spelling c.args.builtin) n a e1 e2)) (c.in_ok-input_procedure-2.ensures.found k w n a call)

pub returns-clause-found : goal.returns-clause-found
returns-clause-found c = λ k w n a call.
    let e1 : bytes_eq (spelling c.args.builtin) (codes "read") ≡ false = cc in
    let e2 : bytes_eq (spelling c.args.builtin) (codes "readln") ≡ false = cc in
    subst (λ (x : Attributes). ShowsNode k c.in_ok-silent_procedure.field-0 (with_kind kind.Proc w x)) (sym (stated-silent (spelling c.args.builtin) n a e1 e2)) (c.in_ok-silent_procedure.ensures k w n a call)
