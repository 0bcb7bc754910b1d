use Rattle.std.proofs.Common.{◌≡◌, ℕ, Some, None, List, sym, subst}
use Rattle.pc_syntax.specs.declared.kind.Kind.TheVariants as kind
use Rattle.pc_types.specs.Shapes.{Owner}
use Rattle.pc_rules.specs.Attributes.{Attributes, kids_below}
use Rattle.pc_rules.specs.Decorated.{with_kind}
use Rattle.pc_facts.specs.Shows.{ShowsNode}
use Rattle.pc_call_rules.specs.Calls.{procedure_in}
use Rattle.pc_call_rules.specs.Parameters.{Logs}
use Rattle.pc_call_rules.proofs.MeansSteps.{stated-required, stated-declared, stated-required-touches, stated-declared-touches}
use Rattle.pc_call_rules.proofs.calls.procedure.Goals as goal

pub returns-in-Some-clause-found : goal.returns-in-Some-clause-found
returns-in-Some-clause-found c = λ k w n a call name routine.
    let e : procedure_in c.args.named.sighting ≡ Some c.in-Some.builtin = cc in
    subst (λ (x : Attributes). ShowsNode k c.in_ok-required_procedure.field-0 (with_kind kind.Proc w x)) (sym (stated-required k _ c.args.named.sighting n.found c.in-Some.builtin n a e call.name.found)) (c.in_ok-required_procedure.ensures.found k w n a call)

pub returns-in-Some-clause-logged : goal.returns-in-Some-clause-logged
returns-in-Some-clause-logged c = λ k n a call routine.
    let e : procedure_in c.args.named.sighting ≡ Some c.in-Some.builtin = cc in
    subst (λ (x : List (Owner × List ℕ)). Logs k c.args.touched.now.items c.required_procedure.new.touched.items x) (sym (stated-required-touches k _ c.args.named.sighting n.found c.in-Some.builtin (kids_below a) e call.name.found)) (c.in_ok-required_procedure.ensures.logged k n a call)

pub returns-clause-found : goal.returns-clause-found
returns-clause-found c = λ k w n a call name routine.
    let e : procedure_in c.args.named.sighting ≡ None = cc in
    subst (λ (x : Attributes). ShowsNode k c.in_ok-declared_procedure.field-0 (with_kind kind.Proc w x)) (sym (stated-declared k _ c.args.named.sighting n.found n a e call.name.found)) (c.in_ok-declared_procedure.ensures.found k w n a call name routine)

pub returns-clause-logged : goal.returns-clause-logged
returns-clause-logged c = λ k n a call routine.
    let e : procedure_in c.args.named.sighting ≡ None = cc in
    subst (λ (x : List (Owner × List ℕ)). Logs k c.args.touched.now.items c.declared_procedure.new.touched.items x) (sym (stated-declared-touches k _ c.args.named.sighting n.found (kids_below a) e call.name.found)) (c.in_ok-declared_procedure.ensures.logged k n a call routine)
