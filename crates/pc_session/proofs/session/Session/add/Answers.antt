use Rattle.pc_session.proofs.ProgramSteps.{Adds-program}
use Rattle.pc_session.proofs.session.Session.add.Goals as goal

pub edit-requires : goal.edit-requires
edit-requires g c = Adds-program c.args.path.now c.args.k c.args.template.now c.tree.result.now c.in-Ok.made c.tree.ensures.program c.in-Ok.ensures
