use Rattle.std.proofs.Common.{◌≡◌, ◌<◌, length, arith, rules, false}
use Rattle.std.proofs.lemmas.List.{with_items_is}
use Rattle.std.proofs.lemmas.Bool.Decides.{nat_tests}
use Rattle.pc_script.specs.Intake.{has_ended, bytes_to_come}
use Rattle.pc_script.proofs.IntakeSteps.{Took-read, Fails-read, part_of-none}
use Rattle.pc_script.proofs.intake.Intake.fill.Goals as goal

pub returns-then-self-2-clause-ended : goal.returns-then-self-2-clause-ended
unfolding has_ended
returns-then-self-2-clause-ended g c = λ none. c.if-self-2.true

pub returns-in-Err-clause-stopped : goal.returns-in-Err-clause-stopped
unfolding has_ended bytes_to_come
returns-in-Err-clause-stopped g c =
    let open_still = c.if-self-2.false in
    λ failed. rw open_still (Fails-read _ _ _ _ _ (part_of-none _ _ _ c.if-self.false) c.in-Err.ensures.bytes)

pub returns-clause-ok : goal.returns-clause-ok
unfolding has_ended bytes_to_come
returns-clause-ok g c =
    let i = c.args.self.now in
    let room : 0 < length c.read.new.into = omega (arith, c.read.auto.into, c.as_mut_slice.ensures.len, i.some_buffer) in
    let len : length c.read.new.into ≡ i.buffer.len = search rules in
    let is = with_items_is i.buffer c.read.new.into len in
    let open_still : i.ended ≡ false = c.if-self-2.false in
    rw (is, open_still) (Took-read _ _ _ _ _ _ _ (part_of-none _ _ _ c.if-self.false) c.in-Ok.ensures.bytes.0 (λ none. c.in-Ok.ensures.bytes.1 none room))

pub returns-clause-ended : goal.returns-clause-ended
unfolding has_ended
returns-clause-ended g c = λ none. grind (arith, nat_tests)
