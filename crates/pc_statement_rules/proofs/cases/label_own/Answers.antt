use Rattle.std.proofs.Common.{Option, subst}
use Rattle.pc_facts.specs.Shows.{ShowsValues}
use Rattle.pc_facts.specs.declared.sighting.Value.{Value}
use Rattle.pc_statement_rules.proofs.CaseSteps.{valued}
use Rattle.pc_statement_rules.proofs.cases.label_own.Goals as goal

pub returns-in_ok-value_own-in-Some : goal.returns-in_ok-value_own-in-Some
returns-in_ok-value_own-in-Some c = λ k t vs v s g h.
    let P : Option Value → Type 0 = λ x. ShowsValues k x v in
    valued k _ _ t vs c.in-Some.known v (subst P c.in-Some.is h) (λ w x. c.in_ok-value_own-in-Some.ensures k t vs w s g x)
