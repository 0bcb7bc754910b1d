use Rattle.std.proofs.Common.{◌∷◌, [], sym}
use Rattle.pc_headings.proofs.parts.function_parts.Goals as goal

pub returns : goal.returns
returns c =
    let e = c.in-Function.ensures in
    record { name = c.in-Function.name.now; rest = c.in-Function.block.now ∷ []; kids = sym e.kids; name_is = e.classes.0; params_are = e.classes.1.0; result_is = e.classes.1.1.0 }
