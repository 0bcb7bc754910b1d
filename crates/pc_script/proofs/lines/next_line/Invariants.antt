use Rattle.std.proofs.Common.{◌≡◌, ◌+◌, ◌≤◌, vec_len}
use Rattle.pc_script.specs.Intake.{bytes_of, allowance}
use Rattle.pc_command.specs.Form.{line_limit}
use Rattle.pc_script.proofs.LineSteps.{Gathered}
use Rattle.pc_script.proofs.lines.next_line.Given as goal

-- The bytes that came are a front of a line. Each lowered the number of those that may come.
abbrev pub invariant-bytes : goal.invariant-bytes
invariant-bytes g l =
    let left = g.S.Source.left in
    record {
      gathered : Gathered (bytes_of l.fn.intake (left l.fn.source)) (bytes_of l.intake (left l.source)) l.line.items;
      falls : allowance l.intake + vec_len l.line ≤ allowance l.fn.intake;
      short : vec_len l.line ≤ line_limit + 2;
      sound : g.S.Source.faults l.source ≡ g.S.Source.faults l.fn.source;
    }

abbrev pub decreases-bytes : goal.decreases-bytes
decreases-bytes g l = allowance l.intake
