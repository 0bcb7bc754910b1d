use Rattle.pc_decl_laws.proofs.LineLemmas.{lines-law}
use Rattle.pc_decl_laws.proofs.laws.decls_come_routine_by_routine.Goals as goal

pub returns : goal.returns
returns c = lines-law
