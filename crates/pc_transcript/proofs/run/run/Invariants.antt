use Rattle.std.proofs.Common.{◌≡◌}
use Rattle.pc_world.specs.HandedOn.{HandsOn}
use Rattle.pc_script.specs.Intake.{commands_of, allowance}
use Rattle.pc_transcript.specs.State.{state_of}
use Rattle.pc_transcript.proofs.RunSteps.{Progress}
use Rattle.pc_transcript.proofs.run.run.Given as goal

-- Replies to some commands were written and handed on, and no call failed.
abbrev pub invariant-commands : goal.invariant-commands
invariant-commands g l =
    let left = g.S.Source.left in
    let files = g.H.Shelf.files in
    let written = g.K.Sink.written in
    let handed_on = g.K.Sink.handed_on in
    record {
      progress : Progress
          (commands_of l.fn.intake (left l.fn.source)) (state_of l.fn.session.now (files l.fn.shelf)) (written l.fn.sink)
          (commands_of l.intake (left l.source)) (state_of l.session.now (files l.shelf)) (written l.sink);
      handed : HandsOn (written l.fn.sink) (handed_on l.fn.sink) → HandsOn (written l.sink) (handed_on l.sink);
      read : g.S.Source.faults l.source ≡ g.S.Source.faults l.fn.source;
      write : g.K.Sink.faults l.sink ≡ g.K.Sink.faults l.fn.sink;
    }

abbrev pub decreases-commands : goal.decreases-commands
decreases-commands g l = allowance l.intake
