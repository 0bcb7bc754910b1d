use Rattle.std.proofs.Common.{refl}
use Rattle.pc_transcript.proofs.ReplySteps.{Answers-read, Answers-wrong, unasked-is}
use Rattle.pc_transcript.proofs.obeying.obey_line.Goals as goal

pub returns-in-Ok-Some-clause-ok : goal.returns-in-Ok-Some-clause-ok
returns-in-Ok-Some-clause-ok g c =
    let read = rw (c.bytes.ensures, c.in-Ok-Some.field-0-is) at c.in-Ok-Some.ensures in
    Answers-read _ _ _ _ _ read c.in_ok-piece-in-Ok-Some.ensures.ok

pub returns-in-Ok-None-clause-ok : goal.returns-in-Ok-None-clause-ok
returns-in-Ok-None-clause-ok g c =
    let read = rw (c.bytes.ensures, c.in-Ok-None.field-0-is) at c.in-Ok-None.ensures in
    Answers-read _ _ _ _ _ read (unasked-is _ c.in_ok-text-in-Ok-None.ensures, refl)

pub returns-clause-ok : goal.returns-clause-ok
returns-clause-ok g c =
    let read = rw c.bytes.ensures at c.in-Err.ensures in
    Answers-wrong _ _ _ _ read c.in_ok-piece-in-Err.ensures
