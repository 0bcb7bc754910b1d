use Rattle.std.proofs.Common.{take, sym, ap, ◌∙◌}
use Rattle.std.proofs.lemmas.List.{take_at}
use Rattle.pc_statements.specs.ForLaws.{noted-more}
use Rattle.pc_statements.proofs.noting.catch_up.Goals as goal

pub loop-i-init : goal.loop-i-init
loop-i-init c = λ h. sym (ap (take c.mark-i.result) h.is ∙ take_at c.args.own.now h.more c.mark-i.result (sym c.mark-i.ensures))

pub loop-i-preserved : goal.loop-i-preserved
loop-i-preserved c = λ h. noted-more c.args.touched.now c.loop-i.i _ c.loop-i.own c.note.new.self c.loop-i-test.true c.in_ok-note.ensures.log (c.loop-i.invariant h)
