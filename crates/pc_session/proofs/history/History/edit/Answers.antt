use Rattle.std.proofs.Common.{arith, ◌∙◌}
use Rattle.pc_session.proofs.LineSteps.{edit-now, edit-before, edit-line, kept-line}
use Rattle.pc_session.proofs.history.History.edit.Goals as goal

pub returns-clause-now : goal.returns-clause-now
returns-clause-now c =
    let line = c.settle.new.line in
    rw (← c.self.view_is)
    (edit-now _ _ _ _ c.self.invariant.placed line.items _ _ _ c.settle.ensures.line (omega (arith, line.ok.0, c.len-end.ensures)) c.in_ok-push.ensures.items c.swap.ensures.items)

pub returns-clause-before : goal.returns-clause-before
returns-clause-before c =
    let line = c.settle.new.line in
    rw (← c.self.view_is)
    (edit-before _ _ _ _ c.self.invariant.placed line.items _ _ _ c.settle.ensures.line (omega (arith, line.ok.0, c.len-end.ensures)) c.in_ok-push.ensures.items c.swap.ensures.items)

pub invariant_of-self : goal.invariant_of-self
invariant_of-self c =
    rw c.settle.ensures.last (kept-line _ _ c.push.new.self.items _ c.self.invariant (c.in_err-push.ensures.items ∙ c.settle.ensures.line))

pub invariant_of-self-2 : goal.invariant_of-self-2
invariant_of-self-2 c =
    let line = c.settle.new.line in
    edit-line _ _ _ _ c.self.invariant.placed line.items _ _ _ c.settle.ensures.line (omega (arith, line.ok.0, c.len-end.ensures)) c.in_ok-push.ensures.items c.swap.ensures.items c.self.invariant.programs c.requires.program
