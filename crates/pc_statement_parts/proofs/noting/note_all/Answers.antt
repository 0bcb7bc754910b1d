use Rattle.pc_statement_parts.specs.PartLaws.{noted-more}
use Rattle.pc_statement_parts.proofs.noting.note_all.Goals as goal

pub loop-i-preserved : goal.loop-i-preserved
loop-i-preserved c = noted-more c.args.variables.now c.loop-i.i _ c.args.touched.now c.loop-i.touched c.note.new.self c.loop-i-test.true c.in_ok-note.ensures.log c.loop-i.invariant
