use Rattle.pc_targets.proofs.FinalLemmas.{said-law}
use Rattle.pc_targets.proofs.laws.targets_say_what_blocks_declare.Goals as goal

pub returns : goal.returns
returns c = said-law
