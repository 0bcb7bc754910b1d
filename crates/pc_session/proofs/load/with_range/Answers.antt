use Rattle.pc_session.proofs.RangeSteps.{Retypes-read, Retypes-refused}
use Rattle.pc_session.proofs.load.with_range.Goals as goal

pub returns-in-Ok-retype : goal.returns-in-Ok-retype
returns-in-Ok-retype g c = Retypes-read c.args.tree.now c.args.range.now c.args.new.now c.in-Ok-retype.reading c.in-Ok-retype.ensures

pub returns : goal.returns
returns g c = rw c.unretyped.ensures (Retypes-refused c.args.tree.now c.args.range.now c.args.new.now c.in-Err.error c.in-Err.ensures)
