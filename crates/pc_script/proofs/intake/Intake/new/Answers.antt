use Rattle.std.proofs.Common.{arith, refl}
use Rattle.pc_script.specs.Intake.{has_ended, bytes_to_come, commands_to_come}
use Rattle.pc_script.specs.Script.{commands_in}
use Rattle.pc_script.proofs.IntakeSteps.{bytes_after-none, part_of-none}
use Rattle.pc_script.proofs.intake.Intake.new.Goals as goal

pub returns-clause-fresh : goal.returns-clause-fresh
unfolding bytes_to_come commands_to_come commands_in
returns-clause-fresh c = λ rest more. rw (bytes_after-none _ _ _ rest more (part_of-none _ 0 0 (omega arith)), c.unit_limit-left.ensures, c.unit_length-room.ensures.value) refl

pub returns-clause-unended : goal.returns-clause-unended
unfolding has_ended
returns-clause-unended c = refl
