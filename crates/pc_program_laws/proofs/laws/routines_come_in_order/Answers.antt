use Rattle.pc_program_laws.proofs.RoutineLemmas.{routines-law}
use Rattle.pc_program_laws.proofs.laws.routines_come_in_order.Goals as goal

pub returns : goal.returns
returns c = routines-law
