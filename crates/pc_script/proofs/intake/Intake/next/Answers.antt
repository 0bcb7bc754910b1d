use Rattle.std.proofs.Common.{arith, rules, ◌≡◌, ◌<◌, ◌≤◌, ◌||◌, eqb, leb, length, get_or, true, false}
use Rattle.std.proofs.lemmas.Bool.Decides.{nat_tests}
use Rattle.std.proofs.lemmas.Grind.{common_steps}
use Rattle.std.proofs.lemmas.List.{get_or_read}
use Rattle.pc_script.specs.Intake.{has_ended, bytes_to_come, allowance}
use Rattle.pc_script.specs.Script.{unit_length}
use Rattle.pc_script.proofs.IntakeSteps.{Took-end, Took-too_many, Took-item, part_of-none, part_of-cons, within-ends_unit, within-in_unit}
use Rattle.pc_script.proofs.ReadingSteps.{Took-filled}
use Rattle.pc_script.proofs.intake.Intake.next.Goals as goal
use Rattle.pc_script.proofs.intake.Intake.next.Goals.{then-byte-eq10, else-byte-eq10}

pub returns-then-not-branch-clause-ok : goal.returns-then-not-branch-clause-ok
unfolding has_ended bytes_to_come
returns-then-not-branch-clause-ok g c =
    let i = c.fill.new.self in
    let none : i.end ≤ i.start = grind (arith, common_steps, c.in_ok-fill.ensures.kept, c.if-not-branch.true) in
    let ended = c.in_ok-fill.ensures.ended c.if-not-branch.true in
    Took-filled _ _ _ _ c.in_ok-fill.ensures.ok (Took-end _ _ _ _ _ (part_of-none _ _ _ none) ended)

pub returns-then-not-branch-clause-falls : goal.returns-then-not-branch-clause-falls
unfolding allowance unit_length
returns-then-not-branch-clause-falls g c = omega (arith, c.fill.ensures.same.0, c.fill.ensures.same.1)

pub returns-then-self-eq0-clause-ok : goal.returns-then-self-eq0-clause-ok
unfolding has_ended bytes_to_come
returns-then-self-eq0-clause-ok g c =
    let i = c.fill.new.self in
    let some : i.start < i.end = search rules in
    let fits : i.end ≤ length i.buffer.items = omega (arith, i.in_buffer, i.buffer.ok.0) in
    Took-filled _ _ _ _ c.in_ok-fill.ensures.ok (Took-too_many _ _ _ _ _ _ _ c.if-self-eq0.true (part_of-cons _ _ _ some fits))

pub returns-then-self-eq0-clause-falls : goal.returns-then-self-eq0-clause-falls
unfolding allowance unit_length
returns-then-self-eq0-clause-falls g c = omega (arith, c.fill.ensures.same.0, c.fill.ensures.same.1)

pub returns-then-self-eq1-clause-ok : goal.returns-then-self-eq1-clause-ok
unfolding has_ended bytes_to_come
returns-then-self-eq1-clause-ok g c =
    let i = c.fill.new.self in
    let some : i.start < i.end = search rules in
    let fits : i.end ≤ length i.buffer.items = omega (arith, i.in_buffer, i.buffer.ok.0) in
    let left : 0 < i.left = omega arith in
    let byte : c.index-byte.result.now ≡ get_or i.buffer.items i.start 0 = get_or_read i.buffer.items _ _ (omega arith) c.index-byte.ensures 0 in
    let full : (eqb (get_or i.buffer.items i.start 0) 10 || leb i.room 1) ≡ true =
    elim c.if-byte-eq10.branch [ then-byte-eq10 w ↦ grind (arith, nat_tests) | else-byte-eq10 w ↦ grind (arith, nat_tests) ] in
    rw (byte, c.unit_length-self.ensures.value) (Took-filled _ _ _ _ c.in_ok-fill.ensures.ok (Took-item _ _ _ _ _ _ _ _ _ (part_of-cons _ _ _ some fits) (λ bs. within-ends_unit _ _ _ bs left full)))

pub returns-then-self-eq1-clause-falls : goal.returns-then-self-eq1-clause-falls
unfolding allowance unit_length
returns-then-self-eq1-clause-falls g c = omega (arith, c.unit_length-self.ensures.value, c.fill.ensures.same.0, c.fill.ensures.same.1)

pub returns-else-self-eq1-clause-ok : goal.returns-else-self-eq1-clause-ok
unfolding has_ended bytes_to_come
returns-else-self-eq1-clause-ok g c =
    let i = c.fill.new.self in
    let some : i.start < i.end = search rules in
    let fits : i.end ≤ length i.buffer.items = omega (arith, i.in_buffer, i.buffer.ok.0) in
    let left : 0 < i.left = omega arith in
    let byte : c.index-byte.result.now ≡ get_or i.buffer.items i.start 0 = get_or_read i.buffer.items _ _ (omega arith) c.index-byte.ensures 0 in
    let part : (eqb (get_or i.buffer.items i.start 0) 10 || leb i.room 1) ≡ false =
    elim c.if-byte-eq10.branch [ then-byte-eq10 w ↦ grind (arith, nat_tests) | else-byte-eq10 w ↦ grind (arith, nat_tests) ] in
    rw byte (Took-filled _ _ _ _ c.in_ok-fill.ensures.ok (Took-item _ _ _ _ _ _ _ _ _ (part_of-cons _ _ _ some fits) (λ bs. within-in_unit _ _ _ bs left part)))

pub returns-else-self-eq1-clause-falls : goal.returns-else-self-eq1-clause-falls
unfolding allowance unit_length
returns-else-self-eq1-clause-falls g c = omega (arith, c.fill.ensures.same.0, c.fill.ensures.same.1)
