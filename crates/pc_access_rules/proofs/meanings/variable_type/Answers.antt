use Rattle.std.proofs.Common.{subst}
use Rattle.pc_rules.specs.Variables as rule
use Rattle.pc_facts.specs.Shows.{ShowsFound, ShowsType}
use Rattle.pc_access_rules.proofs.MeaningSteps.{found-here}
use Rattle.pc_access_rules.proofs.meanings.variable_type.Goals as goal

pub returns-in-Here : goal.returns-in-Here
returns-in-Here c = λ k n f h.
    found-here (λ f. ShowsType k.table c.type_of_variable.result (rule.variable_type f)) k n c.in-Here.declared f (c.type_of_variable.ensures k n)
    (subst (λ s. ShowsFound k n s f) c.in-Here.is h)
