use Rattle.std.proofs.Common.{subst}
use Rattle.pc_facts.specs.Shows.{ShowsSignatures}
use Rattle.pc_access_rules.proofs.MeaningSteps.{formals-shown}
use Rattle.pc_access_rules.proofs.meanings.has_formals.Goals as goal

pub returns-in-Some : goal.returns-in-Some
returns-in-Some c = λ k s e h.
    formals-shown k c.args.signatures.now c.in-Some.id _ s e (subst (λ i. ShowsSignatures k i s) c.in-Some.is h) c.has_formals_at.ensures
