use Rattle.std.proofs.Common.{List, [], ◌∷◌, ◌∙◌, ap, sym, subst}
use Rattle.pc_types.specs.Rows.{seen}
use Rattle.pc_rules.specs.Attributes.{kids_below}
use Rattle.pc_rules.specs.Arguments as rule
use Rattle.pc_facts.specs.Shows.{ShowsArgument, ShowsFormals, AllShow}
use Rattle.pc_facts.specs.declared.facts.Argument.{Argument}
use Rattle.pc_facts.specs.declared.sighting.Formal.{Formal}
use Rattle.pc_call_rules.specs.Calls.{ShowsCall}
use Rattle.pc_call_rules.proofs.CallSteps.{routine-formals}
use Rattle.pc_call_rules.proofs.declared.declared_procedure.Goals as goal

pub returns-clause-found : goal.returns-clause-found
returns-clause-found c = λ k w n a call name routine.
    let s = rule.procedure_signature n.found in
    let shown = subst (λ (x : List Argument). ShowsCall k (seen c.args.types.now) c.args.named x n a) (sym c.as_slice-passed.ensures.value) call in
    c.statement.ensures k w (n ∷ a ∷ []) _ (rule.passed_by_place (rule.formals_of s) (kids_below a)) (c.has_hole-hole.ensures k _ n a shown)
    (c.in_ok-all.ensures k s (kids_below a) call.table routine call.passed ∙ ap (λ x. rule.call_entries x s (kids_below a)) name)

pub returns-clause-logged : goal.returns-clause-logged
returns-clause-logged c = λ k n a call routine.
    let s = rule.procedure_signature n.found in
    let formals = subst (λ (x : List Formal). ShowsFormals k x (rule.formals_of s)) (sym c.formals_of.ensures) (routine-formals k _ s routine) in
    c.in_ok-passed_by_place.ensures k (rule.formals_of s) (kids_below a) formals
    (subst (λ (x : List Argument). AllShow (ShowsArgument k) x (kids_below a)) (sym c.as_slice-passed.ensures.value) call.passed)
