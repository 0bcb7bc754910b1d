use Rattle.pc_command.proofs.TextSteps.{passes_over, needs_its_text}
use Rattle.pc_command.proofs.laws.texts_that_are_taken.Goals as goal

pub returns-clause-passes_over : goal.returns-clause-passes_over
returns-clause-passes_over c = passes_over

pub returns-clause-needs : goal.returns-clause-needs
returns-clause-needs c = needs_its_text
