use Rattle.pc_type_rules.proofs.NumberSteps.{added-number}
use Rattle.pc_type_rules.proofs.number.without_name.Goals as goal

pub returns-clause-number : goal.returns-clause-number
returns-clause-number c = λ ty h. added-number _ _ _ _ ty c.in_ok-id.ensures.id c.in_ok-id.ensures.grown (h _)
