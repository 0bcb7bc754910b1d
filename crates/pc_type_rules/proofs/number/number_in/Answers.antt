use Rattle.pc_type_rules.proofs.NumberSteps.{known-number, based-number}
use Rattle.pc_type_rules.proofs.number.number_in.Goals as goal

pub returns-in-Id-clause-number : goal.returns-in-Id-clause-number
returns-in-Id-clause-number c = λ ty h. known-number _ c.in-Id.id _ _ ty c.in-Id.is c.if_there.ensures.same h

pub returns-in_ok-id-in-Members-clause-number : goal.returns-in_ok-id-in-Members-clause-number
returns-in_ok-id-in-Members-clause-number c = λ ty h. based-number _ _ c.in-Members.base _ _ _ ty c.in-Members.is c.if_there-in-Members.ensures.same c.in_ok-id-in-Members.ensures.number h
