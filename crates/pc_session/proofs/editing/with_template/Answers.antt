use Rattle.pc_session.proofs.FillSteps.{found, Puts-refused}
use Rattle.pc_session.proofs.editing.with_template.Goals as goal

pub returns : goal.returns
returns c =
    let there = rw c.at.ensures at (found c.at.result c.if-is_none.ensures) in
    rw c.refused.ensures (Puts-refused c.args.path.now c.args.name.now c.args.tree.now c.in_ok-piece.piece there c.in_ok-piece.ensures c.in-Err.error c.in-Err.ensures)
