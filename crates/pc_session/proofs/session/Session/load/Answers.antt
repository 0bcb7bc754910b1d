use Rattle.pc_session.specs.Editing.{Writes}
use Rattle.pc_session.proofs.ProgramSteps.{Writes-program}
use Rattle.pc_session.proofs.FillSteps.{Edits-done}
use Rattle.pc_session.proofs.session.Session.load.Goals as goal

pub returns-in-Ok-clause-now : goal.returns-in-Ok-clause-now
returns-in-Ok-clause-now g c =
    let p = c.args.self.now.now.trees.tree in
    Edits-done (Writes c.args.text.now) c.args.self.now.now c.in-Ok.made _ _ (c.in-Ok.ensures.made p) tt c.edit.ensures.now

pub returns-in-Err-clause-now : goal.returns-in-Err-clause-now
returns-in-Err-clause-now g c =
    let p = c.args.self.now.now.trees.tree in
    rw c.refuse.ensures.result (c.in-Err.ensures.made p, c.refuse.ensures.now)

pub edit-requires : goal.edit-requires
edit-requires g c = Writes-program c.args.text.now c.args.self.now.now.trees.tree c.in-Ok.made (c.in-Ok.ensures.made c.args.self.now.now.trees.tree)
