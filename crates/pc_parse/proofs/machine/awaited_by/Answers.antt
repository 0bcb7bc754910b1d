use Rattle.std.proofs.Common.{sym, ◌∙◌}
use Rattle.pc_parse.proofs.Stacks.{stack_last}
use Rattle.pc_parse.proofs.machine.awaited_by.Goals as goal

pub returns-in-Some : goal.returns-in-Some
returns-in-Some c = c.awaited_kid.ensures ∙ sym (stack_last c.args.root c.args.below.now c.in-Some.frame.now c.in-Some.ensures.value)
