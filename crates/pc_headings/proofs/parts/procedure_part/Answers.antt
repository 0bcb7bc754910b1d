use Rattle.std.proofs.Common.{◌∷◌, [], sym}
use Rattle.pc_headings.proofs.parts.procedure_part.Goals as goal

pub returns : goal.returns
returns c =
    let e = c.in-Procedure.ensures in
    record { name = c.in-Procedure.name.now; rest = c.in-Procedure.block.now ∷ []; kids = sym e.kids; name_is = e.classes.0; params_are = e.classes.1.0 }
