use Rattle.pc_block_laws.proofs.TouchedLemmas.{touched-law}
use Rattle.pc_block_laws.proofs.laws.logs_say_what_is_touched.Goals as goal

pub returns : goal.returns
returns c = touched-law
