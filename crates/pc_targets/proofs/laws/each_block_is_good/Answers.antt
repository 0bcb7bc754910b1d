use Rattle.pc_targets.proofs.FinalLemmas.{good-law}
use Rattle.pc_targets.proofs.laws.each_block_is_good.Goals as goal

pub returns : goal.returns
returns c = good-law
