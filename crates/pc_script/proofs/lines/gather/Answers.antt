use Rattle.std.proofs.Common.{◌+◌, arith, ◌∙◌}
use Rattle.pc_command.specs.Form.{line_limit, line_limit-is}
use Rattle.pc_script.proofs.LineSteps.{gather-full, gather-more}
use Rattle.pc_script.proofs.lines.gather.Goals as goal

pub returns-then-len-ge-KEPT-clause-ok : goal.returns-then-len-ge-KEPT-clause-ok
returns-then-len-ge-KEPT-clause-ok c =
    let line = c.args.line.now in
    gather-full (line_limit + 2) line.items c.args.byte (omega (arith, line.ok.0)) (omega (arith, line_limit-is, line.ok.0))

pub returns-in-Ok-clause-ok : goal.returns-in-Ok-clause-ok
returns-in-Ok-clause-ok c =
    let line = c.args.line.now in
    c.in-Ok.ensures.items ∙ gather-more (line_limit + 2) line.items c.args.byte (omega (arith, line_limit-is, line.ok.0))
