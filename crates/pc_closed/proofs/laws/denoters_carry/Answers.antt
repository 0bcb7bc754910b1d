use Rattle.pc_closed.specs.CarriedLaws.{carried-law}
use Rattle.pc_closed.proofs.laws.denoters_carry.Goals as goal

pub returns : goal.returns
returns c = carried-law
