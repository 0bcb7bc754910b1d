use Rattle.std.proofs.Common.{◌≡◌, ◌∙◌, true, sym, arith}
use Rattle.std.proofs.lemmas.Result.{err_from_is_err_and}
use Rattle.pc_script.specs.Intake.{commands_to_come}
use Rattle.pc_command.specs.Form.{is_skipped}
use Rattle.pc_script.specs.Script.{Between}
use Rattle.pc_script.proofs.ReadingSteps.{Took-filled, Fails-filled, IsErrOf-other}
use Rattle.pc_script.proofs.CommandSteps.{Took-skipped, Took-begun, Took-end_between, Took-too_many, Fails-at}
use Rattle.pc_script.proofs.command.next_command.Goals as goal

pub lines-preserved : goal.lines-preserved
lines-preserved g c =
    let next = rw c.in-Item.is at c.in_ok-line.ensures.ok in
    let skipped : is_skipped c.in-Item.line ≡ true = rw c.bytes.ensures at (sym c.if-not-is_skipped.ensures) in
    let falls = rw c.in-Item.is at c.in_ok-line.ensures.falls in
    record {
      same = Took-filled _ _ _ _ c.lines.invariant.same (Took-skipped _ _ _ next skipped);
      falls = omega (arith, falls, c.lines.invariant.falls);
      sound = c.in_ok-line.ensures.cause.kept ∙ c.lines.invariant.sound;
    }

pub returns-then-not-is_skipped-clause-ok : goal.returns-then-not-is_skipped-clause-ok
unfolding commands_to_come
returns-then-not-is_skipped-clause-ok g c =
    let next = rw c.in-Item.is at c.in_ok-line.ensures.ok in
    Took-filled _ _ _ _ c.lines.invariant.same (Took-filled _ _ _ _ (Took-begun _ _ _ next) c.in_ok-command-in-Item.ensures.ok)

pub returns-in-End-clause-ok : goal.returns-in-End-clause-ok
unfolding commands_to_come
returns-in-End-clause-ok g c =
    let next = rw c.in-End.is at c.in_ok-line.ensures.ok in
    Took-filled _ _ _ _ c.lines.invariant.same (Took-end_between _ _ next)

pub returns-in-TooMany-clause-ok : goal.returns-in-TooMany-clause-ok
unfolding commands_to_come
returns-in-TooMany-clause-ok g c =
    let next = rw c.in-TooMany.is at c.in_ok-line.ensures.ok in
    Took-filled _ _ _ _ c.lines.invariant.same (Took-too_many Between _ _ next)

pub returns-in_err-line-clause-stopped : goal.returns-in_err-line-clause-stopped
unfolding commands_to_come
returns-in_err-line-clause-stopped g c = λ failed.
    let e = err_from_is_err_and c.from_residual.result c.from_residual.ensures.1 in
    let fails = c.in_err-line.ensures.stopped (IsErrOf-other _ _ (rw (e.1, e.2) at failed)) in
    Fails-filled _ _ _ c.lines.invariant.same (Fails-at Between _ _ fails)

pub returns-in_err-command-in-Item-clause-stopped :
    goal.returns-in_err-command-in-Item-clause-stopped
unfolding commands_to_come
returns-in_err-command-in-Item-clause-stopped g c = λ failed.
    let next = rw c.in-Item.is at c.in_ok-line.ensures.ok in
    let e = err_from_is_err_and c.from_residual-in_err-command-in-Item.result c.from_residual-in_err-command-in-Item.ensures.1 in
    let fails = c.in_err-command-in-Item.ensures.stopped (rw (e.1, e.2) at failed) in
    Fails-filled _ _ _ c.lines.invariant.same (Fails-filled _ _ _ (Took-begun _ _ _ next) fails)
