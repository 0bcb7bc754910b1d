use Rattle.std.proofs.Common.{◌≡◌, ◌≤◌, ℕ, List, []}
use Rattle.pc_script.specs.Ahead.{IsSame}
use Rattle.pc_script.specs.Reading.{Took, over}
use Rattle.pc_script.specs.Intake.{lines_of, allowance}
use Rattle.pc_script.specs.Script.{commands_ahead, InText}
use Rattle.pc_script.proofs.command.text_until.Given as goal

-- The lines that came stand in the text.
abbrev pub invariant-text : goal.invariant-text
invariant-text g l =
    let left = g.S.Source.left in
    record {
      same : (line : List ℕ) → Took (over (commands_ahead (InText line l.word [])) (lines_of l.fn.intake (left l.fn.source)))
          (over (commands_ahead (InText line l.word l.text.items)) (lines_of l.intake (left l.source))) IsSame;
      falls : allowance l.intake ≤ allowance l.fn.intake;
      sound : g.S.Source.faults l.source ≡ g.S.Source.faults l.fn.source;
    }

abbrev pub decreases-text : goal.decreases-text
decreases-text g l = allowance l.intake
