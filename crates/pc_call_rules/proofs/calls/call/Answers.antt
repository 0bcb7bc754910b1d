use Rattle.std.proofs.Common.{◌≡◌, ℕ, Some, None, List, refl, sym, subst}
use Rattle.pc_syntax.specs.declared.kind.Kind.TheVariants as kind
use Rattle.pc_types.specs.Shapes.{Owner}
use Rattle.pc_rules.specs.Attributes.{Attributes, kids_below}
use Rattle.pc_rules.specs.Decorated.{with_kind}
use Rattle.pc_facts.specs.Shows.{ShowsNode}
use Rattle.pc_call_rules.specs.Calls.{function_in}
use Rattle.pc_call_rules.specs.Parameters.{Logs}
use Rattle.pc_call_rules.proofs.MeansSteps.{called-required, called-declared, required-touches-none}
use Rattle.pc_call_rules.proofs.TouchSteps.{Logs-nothing}
use Rattle.pc_call_rules.proofs.calls.call.Goals as goal

pub returns-in-Some-clause-found : goal.returns-in-Some-clause-found
returns-in-Some-clause-found c = λ k w n a call name routine.
    let e : function_in c.args.named.sighting ≡ Some c.in-Some.builtin = cc in
    subst (λ (x : Attributes). ShowsNode k c.in_ok-required_call.field-0 (with_kind kind.Call w x)) (sym (called-required k _ c.args.named.sighting n.found c.in-Some.builtin n a e call.name.found)) (c.in_ok-required_call.ensures k w n a call)

pub returns-in-Some-clause-logged : goal.returns-in-Some-clause-logged
returns-in-Some-clause-logged c = λ k n a call routine.
    let e : function_in c.args.named.sighting ≡ Some c.in-Some.builtin = cc in
    subst (λ (x : List (Owner × List ℕ)). Logs k c.args.touched.now.items c.args.touched.now.items x) (sym (required-touches-none k _ c.args.named.sighting n.found c.in-Some.builtin (kids_below a) e call.name.found)) (Logs-nothing k _ c.args.touched.now.items refl)

pub returns-clause-found : goal.returns-clause-found
returns-clause-found c = λ k w n a call name routine.
    let e : function_in c.args.named.sighting ≡ None = cc in
    subst (λ (x : Attributes). ShowsNode k c.in_ok-declared_call.field-0 (with_kind kind.Call w x)) (sym (called-declared k _ c.args.named.sighting n.found n a e call.name.found)) (c.in_ok-declared_call.ensures.found k w n a call name routine)
