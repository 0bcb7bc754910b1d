use Rattle.std.proofs.Common.{subst}
use Rattle.pc_facts.specs.Shows.{ShowsSignatures}
use Rattle.pc_access_rules.proofs.MeaningSteps.{result-shown}
use Rattle.pc_access_rules.proofs.meanings.result_of.Goals as goal

pub returns-in-Some : goal.returns-in-Some
returns-in-Some c = λ k s e h.
    result-shown k c.args.signatures.now c.in-Some.id _ s e (subst (λ i. ShowsSignatures k i s) c.in-Some.is h) c.result_at.ensures
