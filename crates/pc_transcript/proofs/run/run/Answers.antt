use Rattle.std.proofs.Common.{refl, ◌∙◌}
use Rattle.pc_transcript.proofs.RunSteps.{Progress-none, Progress-more, Progress-part, Progress-front, Progress-done, Progress-cut_off}
use Rattle.pc_transcript.proofs.run.run.Goals as goal

pub commands-init : goal.commands-init
commands-init g c = record { progress = Progress-none _ _ _; handed = λ h. h; read = refl; write = refl }

pub returns-in-Err-clause-interrupted : goal.returns-in-Err-clause-interrupted
returns-in-Err-clause-interrupted g c =
    let next = rw c.in-Ok-Item.field-0-is at c.in-Ok-Item.ensures.ok in
    Progress-part _ _ _ _ _ _ _ _ _ c.commands.invariant.progress next c.in-Err.ensures.err c.requires.unended

pub commands-preserved : goal.commands-preserved
commands-preserved g c =
    let i = c.commands.invariant in
    let next = rw c.in-Ok-Item.field-0-is at c.in-Ok-Item.ensures.ok in
    record {
      progress = Progress-more _ _ _ _ _ _ _ _ _ _ i.progress next c.in-Ok.ensures.ok;
      handed = λ h. c.in-Ok.ensures.handed_on;
      read = c.in-Ok-Item.ensures.cause.kept ∙ i.read;
      write = c.in-Ok.ensures.cause.kept ∙ i.write;
    }

pub returns-in-Ok-End-clause-transcript : goal.returns-in-Ok-End-clause-transcript
returns-in-Ok-End-clause-transcript g c =
    let next = rw c.in-Ok-End.field-0-is at c.in-Ok-End.ensures.ok in
    λ read write memory. Progress-done _ _ _ _ _ _ _ _ c.commands.invariant.progress next c.requires.unended refl

pub returns-in-Ok-End-clause-interrupted : goal.returns-in-Ok-End-clause-interrupted
returns-in-Ok-End-clause-interrupted g c = Progress-front _ _ _ _ _ _ c.commands.invariant.progress c.requires.unended

pub returns-in-Ok-TooMany-clause-transcript : goal.returns-in-Ok-TooMany-clause-transcript
returns-in-Ok-TooMany-clause-transcript g c =
    let next = rw c.in-Ok-TooMany.field-0-is at c.in-Ok-TooMany.ensures.ok in
    λ read write memory. Progress-cut_off _ _ _ _ _ _ _ _ c.commands.invariant.progress next c.requires.unended refl

pub returns-in-Ok-TooMany-clause-interrupted : goal.returns-in-Ok-TooMany-clause-interrupted
returns-in-Ok-TooMany-clause-interrupted g c = Progress-front _ _ _ _ _ _ c.commands.invariant.progress c.requires.unended

pub returns-in-Err-ReadFailed-clause-interrupted : goal.returns-in-Err-ReadFailed-clause-interrupted
returns-in-Err-ReadFailed-clause-interrupted g c = Progress-front _ _ _ _ _ _ c.commands.invariant.progress c.requires.unended

pub returns-in-Err-NoMemory-clause-interrupted : goal.returns-in-Err-NoMemory-clause-interrupted
returns-in-Err-NoMemory-clause-interrupted g c = Progress-front _ _ _ _ _ _ c.commands.invariant.progress c.requires.unended
