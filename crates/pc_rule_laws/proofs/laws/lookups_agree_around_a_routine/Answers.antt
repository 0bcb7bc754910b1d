use Rattle.std.proofs.Common.{◌≡◌, Some}
use Rattle.pc_rule_laws.specs.RoutineLaw.{routine-agrees}
use Rattle.pc_rule_laws.proofs.laws.lookups_agree_around_a_routine.Goals as goal

pub returns : goal.returns
returns c = λ class_at. routine-agrees (λ p c. class_at p ≡ Some c)
