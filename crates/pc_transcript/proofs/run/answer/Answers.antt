use Rattle.std.proofs.lemmas.Result.{err_from_is_err_and}
use Rattle.pc_transcript.specs.Obeying.{Answers-no_memory}
use Rattle.pc_transcript.proofs.run.answer.Goals as goal

pub returns-in_err-hand_on-in-Err-clause-err : goal.returns-in_err-hand_on-in-Err-clause-err
returns-in_err-hand_on-in-Err-clause-err g c =
    let failed = err_from_is_err_and c.from_residual-in_err-hand_on-in-Err.result c.from_residual-in_err-hand_on-in-Err.ensures.1 in
    let front = c.in_err-hand_on-in-Err.ensures.err in
    rw failed.1 (record { piece = _; last = _; answers = Answers-no_memory _ _; count = front.0; within = front.1; written = front.2 })

pub returns-in_ok-hand_on-in-Err-clause-ok : goal.returns-in_ok-hand_on-in-Err-clause-ok
returns-in_ok-hand_on-in-Err-clause-ok g c =
    rw c.in-Err.ensures.err (record { piece = _; answers = Answers-no_memory _ _; written = c.in_ok-hand_on-in-Err.ensures.ok })
