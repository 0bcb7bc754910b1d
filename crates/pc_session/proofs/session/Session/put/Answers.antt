use Rattle.pc_session.proofs.ProgramSteps.{Puts-program}
use Rattle.pc_session.proofs.session.Session.put.Goals as goal

pub edit-requires : goal.edit-requires
edit-requires g c = Puts-program c.args.path.now c.args.template.now c.tree.result.now c.in-Ok.made c.tree.ensures.program c.in-Ok.ensures
