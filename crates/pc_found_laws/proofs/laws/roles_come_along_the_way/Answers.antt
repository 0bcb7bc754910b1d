use Rattle.pc_found_laws.proofs.RoleLemmas.{roles-law}
use Rattle.pc_found_laws.proofs.laws.roles_come_along_the_way.Goals as goal

pub returns : goal.returns
returns c = roles-law
