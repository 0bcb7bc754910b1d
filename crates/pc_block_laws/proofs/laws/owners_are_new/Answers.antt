use Rattle.pc_block_laws.proofs.OwnerTables.{owners-law}
use Rattle.pc_block_laws.proofs.laws.owners_are_new.Goals as goal

pub returns : goal.returns
returns c = owners-law
