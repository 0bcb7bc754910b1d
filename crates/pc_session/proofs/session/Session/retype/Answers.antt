use Rattle.pc_session.specs.Editing.{Retypes}
use Rattle.pc_session.proofs.ProgramSteps.{Retypes-program}
use Rattle.pc_session.proofs.FillSteps.{Edits-done}
use Rattle.pc_session.proofs.session.Session.retype.Goals as goal

pub returns-in-Ok-clause-now : goal.returns-in-Ok-clause-now
returns-in-Ok-clause-now g c =
    Edits-done (Retypes c.args.range.now c.args.text.now) c.args.self.now.now c.in-Ok.made _ _ (rw c.tree.ensures.now at c.in-Ok.ensures) tt c.edit.ensures.now

pub edit-requires : goal.edit-requires
edit-requires g c = Retypes-program c.args.range.now c.args.text.now c.tree.result.now c.in-Ok.made c.in-Ok.ensures
