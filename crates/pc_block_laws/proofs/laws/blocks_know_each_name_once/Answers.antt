use Rattle.pc_block_laws.proofs.StartLemmas.{once-law}
use Rattle.pc_block_laws.proofs.laws.blocks_know_each_name_once.Goals as goal

pub returns : goal.returns
returns c = once-law
