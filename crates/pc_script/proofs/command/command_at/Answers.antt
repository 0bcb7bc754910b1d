use Rattle.std.proofs.Common.{◌≡◌, sym, Some, None}
use Rattle.std.proofs.lemmas.Result.{err_from_is_err_and}
use Rattle.pc_command.specs.Form.{here_word}
use Rattle.pc_script.proofs.ReadingSteps.{Took-filled, Fails-filled, IsErrOf-other}
use Rattle.pc_script.proofs.CommandSteps.{Took-plain, Took-begun_text}
use Rattle.pc_script.proofs.command.command_at.Goals as goal

pub returns-in-None-clause-ok : goal.returns-in-None-clause-ok
returns-in-None-clause-ok g c =
    let none : here_word c.args.line ≡ None = rw c.bytes.ensures at (sym c.in-None.ensures) in
    Took-plain _ _ c.requires none

pub returns-in-Item-clause-ok : goal.returns-in-Item-clause-ok
returns-in-Item-clause-ok g c =
    let some : here_word c.args.line ≡ Some c.in-Some.word.now = rw c.bytes.ensures at (sym c.in-Some.ensures) in
    let text = rw c.in-Item.is at c.in_ok-text-in-Some.ensures.ok in
    Took-filled _ _ _ _ (Took-begun_text _ _ _ c.requires some) (text c.args.line)

pub returns-in-End-clause-ok : goal.returns-in-End-clause-ok
returns-in-End-clause-ok g c =
    let some : here_word c.args.line ≡ Some c.in-Some.word.now = rw c.bytes.ensures at (sym c.in-Some.ensures) in
    let text = rw c.in-End.is at c.in_ok-text-in-Some.ensures.ok in
    Took-filled _ _ _ _ (Took-begun_text _ _ _ c.requires some) (text c.args.line)

pub returns-in-TooMany-clause-ok : goal.returns-in-TooMany-clause-ok
returns-in-TooMany-clause-ok g c =
    let some : here_word c.args.line ≡ Some c.in-Some.word.now = rw c.bytes.ensures at (sym c.in-Some.ensures) in
    let text = rw c.in-TooMany.is at c.in_ok-text-in-Some.ensures.ok in
    Took-filled _ _ _ _ (Took-begun_text _ _ _ c.requires some) (text c.args.line)

pub returns-in_err-text-in-Some-clause-stopped : goal.returns-in_err-text-in-Some-clause-stopped
returns-in_err-text-in-Some-clause-stopped g c = λ failed.
    let some : here_word c.args.line ≡ Some c.in-Some.word.now = rw c.bytes.ensures at (sym c.in-Some.ensures) in
    let e = err_from_is_err_and c.from_residual.result c.from_residual.ensures.1 in
    let fails = c.in_err-text-in-Some.ensures.stopped (IsErrOf-other _ _ (rw (e.1, e.2) at failed)) in
    Fails-filled _ _ _ (Took-begun_text _ _ _ c.requires some) (fails c.args.line)
