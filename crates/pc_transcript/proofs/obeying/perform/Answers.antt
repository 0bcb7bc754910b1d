use Rattle.pc_transcript.proofs.FillSteps.{Does-fill}
use Rattle.pc_transcript.proofs.obeying.perform.Goals as goal

pub returns-in-Fill-clause-does : goal.returns-in-Fill-clause-does
returns-in-Fill-clause-does g c =
    rw (c.in-Fill.is, c.edited-in-Fill.ensures)
    (Does-fill _ _ c.bytes-in-Fill.result.now c.args.session.now.now c.fill.new.self.now c.fill.result c.bytes-in-Fill.ensures c.fill.ensures.now)
