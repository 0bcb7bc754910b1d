use Rattle.std.proofs.Common.{◌≡◌, ◌≤◌}
use Rattle.pc_script.specs.Ahead.{IsSame}
use Rattle.pc_script.specs.Reading.{Took, over}
use Rattle.pc_script.specs.Intake.{lines_of, allowance}
use Rattle.pc_script.specs.Script.{commands_ahead, Between}
use Rattle.pc_script.proofs.command.next_command.Given as goal

-- The lines that came were no commands.
abbrev pub invariant-lines : goal.invariant-lines
invariant-lines g l =
    let left = g.S.Source.left in
    record {
      same : Took (over (commands_ahead Between) (lines_of l.fn.intake (left l.fn.source))) (over (commands_ahead Between) (lines_of l.intake (left l.source))) IsSame;
      falls : allowance l.intake ≤ allowance l.fn.intake;
      sound : g.S.Source.faults l.source ≡ g.S.Source.faults l.fn.source;
    }

abbrev pub decreases-lines : goal.decreases-lines
decreases-lines g l = allowance l.intake
