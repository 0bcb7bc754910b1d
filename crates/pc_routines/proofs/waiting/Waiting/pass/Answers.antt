use Rattle.pc_routines.specs.WaitsLaws.{Waits-pass}
use Rattle.pc_routines.proofs.waiting.Waiting.pass.Goals as goal

pub returns : goal.returns
returns c = λ t l r fs shows gives w. Waits-pass t c.args.self.now c.settle.new.self c.args.head.now c.args.forward l r fs c.in_ok-settle.ensures shows gives w
