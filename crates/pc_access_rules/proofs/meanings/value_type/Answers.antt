use Rattle.std.proofs.Common.{subst}
use Rattle.pc_rules.specs.Variables as rule
use Rattle.pc_facts.specs.Shows.{ShowsFound, ShowsType}
use Rattle.pc_access_rules.proofs.MeaningSteps.{found-here}
use Rattle.pc_access_rules.proofs.meanings.value_type.Goals as goal

pub returns-in-Here : goal.returns-in-Here
returns-in-Here c = λ k n f e s h.
    found-here (λ f. ShowsType k.table c.type_of_declared.result (rule.value_type f)) k n c.in-Here.declared f (λ m shows. c.type_of_declared.ensures k n m s shows)
    (subst (λ x. ShowsFound k n x f) c.in-Here.is h)
