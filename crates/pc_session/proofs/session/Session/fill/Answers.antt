use Rattle.pc_session.specs.Editing.{Fills}
use Rattle.pc_session.proofs.ProgramSteps.{Fills-program}
use Rattle.pc_session.proofs.FillSteps.{Edits-done}
use Rattle.pc_session.proofs.session.Session.fill.Goals as goal

pub returns-in-Ok-clause-now : goal.returns-in-Ok-clause-now
returns-in-Ok-clause-now g c =
    Edits-done (Fills c.args.path.now c.args.text.now) c.args.self.now.now c.in-Ok.made _ _ (rw c.tree.ensures.now at c.in-Ok.ensures.made) tt c.edit.ensures.now

pub edit-requires : goal.edit-requires
edit-requires g c = Fills-program c.args.path.now c.args.text.now c.tree.result.now c.in-Ok.made c.tree.ensures.program c.in-Ok.ensures.made
