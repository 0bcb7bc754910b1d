use Rattle.pc_session.specs.TreesLaws.{one_undo, one_redo}
use Rattle.pc_session.proofs.laws.undo_and_redo.Goals as goal

pub returns-clause-undo : goal.returns-clause-undo
returns-clause-undo c = one_undo

pub returns-clause-redo : goal.returns-clause-redo
returns-clause-redo c = one_redo
