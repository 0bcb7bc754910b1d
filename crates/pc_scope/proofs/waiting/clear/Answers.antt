use Rattle.std.proofs.Common.{None}
use Rattle.pc_scope.proofs.ByName.{updates}
use Rattle.pc_scope.proofs.waiting.clear.Goals as goal

pub returns : goal.returns
returns c = updates (λ k. k.items) c.args.waiting.now c.remove.new.self c.args.name.now None c.remove.ensures.updates
