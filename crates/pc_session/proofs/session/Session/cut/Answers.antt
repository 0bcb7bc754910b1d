use Rattle.pc_session.proofs.ProgramSteps.{Cuts-program}
use Rattle.pc_session.proofs.session.Session.cut.Goals as goal

pub edit-requires : goal.edit-requires
edit-requires g c = Cuts-program c.args.path.now c.tree.result.now c.in-Ok.made c.tree.ensures.program c.in-Ok.ensures
