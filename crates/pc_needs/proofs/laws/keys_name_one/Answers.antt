use Rattle.pc_needs.proofs.UniqueRoutines.{keys-law}
use Rattle.pc_needs.proofs.laws.keys_name_one.Goals as goal

pub returns : goal.returns
returns c = keys-law
