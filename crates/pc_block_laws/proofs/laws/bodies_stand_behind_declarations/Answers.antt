use Rattle.pc_block_laws.proofs.BodyPlaceLemmas.{body-place-law}
use Rattle.pc_block_laws.proofs.laws.bodies_stand_behind_declarations.Goals as goal

pub returns : goal.returns
returns c = body-place-law
