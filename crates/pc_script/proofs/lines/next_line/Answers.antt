use Rattle.std.proofs.Common.{arith, ℕ, ◌∙◌, ◌≡◌, ◌<◌, ap, length, vec_len}
use Rattle.std.proofs.lemmas.List.{length-take, length-append}
use Rattle.std.proofs.lemmas.Bool.Decides.{nat_tests}
use Rattle.std.proofs.lemmas.Result.{err_from_is_err_and}
use Rattle.pc_script.specs.Causes.{StopHasCause-ok}
use Rattle.pc_script.proofs.LineSteps.{Gathered-more, Took-line, Took-last, Took-no_line, Took-too_many_lines, Fails-line}
use Rattle.pc_script.proofs.ReadingSteps.{IsErrOf-other}
use Rattle.pc_script.proofs.lines.next_line.Goals as goal

pub returns-in-Item-eq10-clause-ok : goal.returns-in-Item-eq10-clause-ok
returns-in-Item-eq10-clause-ok g c =
    let next = rw (c.in-Item-eq10.is, c.in-Item-eq10.field-0-test) at c.in_ok-next.ensures.ok in
    rw c.ended.ensures (Took-line _ _ _ _ c.bytes.invariant.gathered next)

pub returns-in-Item-eq10-clause-cause : goal.returns-in-Item-eq10-clause-cause
returns-in-Item-eq10-clause-cause g c =
    StopHasCause-ok _ _ _ (c.in_ok-next.ensures.cause.kept ∙ c.bytes.invariant.sound)

pub returns-in-End-clause-cause : goal.returns-in-End-clause-cause
returns-in-End-clause-cause g c =
    StopHasCause-ok _ _ _ (c.in_ok-next.ensures.cause.kept ∙ c.bytes.invariant.sound)

pub bytes-preserved : goal.bytes-preserved
bytes-preserved g c =
    let next = rw c.in-Item.is at c.in_ok-next.ensures.ok in
    let falls = rw c.in-Item.is at c.in_ok-next.ensures.falls in
    let line = c.in_ok-gather-in-Item.ensures.ok in
    record {
      gathered = Gathered-more _ _ _ _ _ _ c.bytes.invariant.gathered next c.in-Item.byte-test.1 line;
      falls = omega (arith, falls, c.bytes.invariant.falls, ap length line, length-take {A = ℕ}, length-append {A = ℕ}, c.gather.new.line.ok.0, c.bytes.line.ok.0);
      short = omega (arith, ap length line, length-take {A = ℕ}, c.gather.new.line.ok.0);
      sound = c.in_ok-next.ensures.cause.kept ∙ c.bytes.invariant.sound;
    }

pub returns-then-is_empty-clause-ok : goal.returns-then-is_empty-clause-ok
returns-then-is_empty-clause-ok g c =
    let next = rw c.in-End.is at c.in_ok-next.ensures.ok in
    let none : length c.bytes.line.items ≡ 0 = grind (arith, nat_tests, c.is_empty.ensures, c.bytes.line.ok.0) in
    Took-no_line _ _ _ _ c.bytes.invariant.gathered next none

pub returns-in-End-clause-ok : goal.returns-in-End-clause-ok
returns-in-End-clause-ok g c =
    let next = rw c.in-End.is at c.in_ok-next.ensures.ok in
    let some : 0 < length c.bytes.line.items = grind (arith, nat_tests, c.is_empty.ensures, c.bytes.line.ok.0) in
    rw c.unended.ensures (Took-last _ _ _ _ c.bytes.invariant.gathered next some)

pub returns-in-End-clause-falls : goal.returns-in-End-clause-falls
returns-in-End-clause-falls g c =
    let some : 0 < vec_len c.bytes.line = grind (arith, nat_tests, c.is_empty.ensures) in
    let falls = rw c.in-End.is at c.in_ok-next.ensures.falls in
    omega (arith, falls, c.bytes.invariant.falls, some)

pub returns-in-TooMany-clause-ok : goal.returns-in-TooMany-clause-ok
returns-in-TooMany-clause-ok g c =
    let next = rw c.in-TooMany.is at c.in_ok-next.ensures.ok in
    Took-too_many_lines _ _ _ _ c.bytes.invariant.gathered next

pub returns-in_err-next-clause-stopped : goal.returns-in_err-next-clause-stopped
returns-in_err-next-clause-stopped g c = λ failed.
    let e = err_from_is_err_and c.from_residual.result c.from_residual.ensures.1 in
    Fails-line _ _ _ _ c.bytes.invariant.gathered (c.in_err-next.ensures.stopped (IsErrOf-other _ _ (rw (e.1, e.2) at failed)))
