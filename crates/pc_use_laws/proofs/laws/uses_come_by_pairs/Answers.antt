use Rattle.pc_use_laws.proofs.PairLemmas.{pairs-law}
use Rattle.pc_use_laws.proofs.laws.uses_come_by_pairs.Goals as goal

pub returns : goal.returns
returns c = pairs-law
