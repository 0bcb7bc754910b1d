use Rattle.pc_needs.proofs.InsideLemmas.{touches-law}
use Rattle.pc_needs.proofs.laws.inside_touch.Goals as goal

pub returns : goal.returns
returns c = touches-law
