use Rattle.std.proofs.Common.{◌≡◌, ◌∙◌, true, false, sym, arith}
use Rattle.std.proofs.lemmas.Result.{err_from_is_err_and}
use Rattle.std.specs.Str.{bytes_eq}
use Rattle.pc_script.specs.Script.{InText}
use Rattle.pc_script.proofs.ReadingSteps.{Took-filled, Fails-filled, IsErrOf-other}
use Rattle.pc_script.proofs.CommandSteps.{Took-text, Took-in_text, Took-end_in_text, Took-too_many, Fails-at}
use Rattle.pc_script.proofs.command.text_until.Goals as goal

pub returns-then-eq-clause-ok : goal.returns-then-eq-clause-ok
returns-then-eq-clause-ok g c =
    let next = rw c.in-Item.is at c.in_ok-line.ensures.ok in
    let same : bytes_eq c.in-Item.line c.args.word.now ≡ true = rw c.bytes.ensures at (sym c.if-eq.ensures) in
    λ line. rw c.from_vec.ensures (Took-filled _ _ _ _ (c.text.invariant.same line) (Took-text _ _ _ _ _ _ next same))

pub text-preserved : goal.text-preserved
text-preserved g c =
    let next = rw c.in-Item.is at c.in_ok-line.ensures.ok in
    let other : bytes_eq c.in-Item.line c.args.word.now ≡ false = rw c.bytes.ensures at (sym c.if-eq.ensures) in
    let text = c.in_ok-append_line-in-Item.ensures.ok in
    let falls = rw c.in-Item.is at c.in_ok-line.ensures.falls in
    record {
      same = λ line. rw text (Took-filled _ _ _ _ (c.text.invariant.same line) (rw c.bytes-in-Item.ensures (Took-in_text _ _ _ _ _ _ next other)));
      falls = omega (arith, falls, c.text.invariant.falls);
      sound = c.in_ok-line.ensures.cause.kept ∙ c.text.invariant.sound;
    }

pub returns-in-End-clause-ok : goal.returns-in-End-clause-ok
returns-in-End-clause-ok g c =
    let next = rw c.in-End.is at c.in_ok-line.ensures.ok in
    λ line. Took-filled _ _ _ _ (c.text.invariant.same line) (Took-end_in_text _ _ _ _ _ next)

pub returns-in-TooMany-clause-ok : goal.returns-in-TooMany-clause-ok
returns-in-TooMany-clause-ok g c =
    let next = rw c.in-TooMany.is at c.in_ok-line.ensures.ok in
    λ line. Took-filled _ _ _ _ (c.text.invariant.same line) (Took-too_many (InText _ _ _) _ _ next)

pub returns-in_err-line-clause-stopped : goal.returns-in_err-line-clause-stopped
returns-in_err-line-clause-stopped g c = λ failed.
    let e = err_from_is_err_and c.from_residual.result c.from_residual.ensures.1 in
    let fails = c.in_err-line.ensures.stopped (IsErrOf-other _ _ (rw (e.1, e.2) at failed)) in
    λ line. Fails-filled _ _ _ (c.text.invariant.same line) (Fails-at (InText line c.args.word.now c.text.text.items) _ _ fails)
