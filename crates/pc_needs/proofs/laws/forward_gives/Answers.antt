use Rattle.pc_needs.proofs.ForwardLemmas.{has-forward}
use Rattle.pc_needs.proofs.laws.forward_gives.Goals as goal

pub returns : goal.returns
returns c = has-forward
