use Rattle.std.proofs.Common.{◌∷◌, [], sym}
use Rattle.pc_headings.proofs.parts.program_part.Goals as goal

pub returns : goal.returns
returns c =
    let e = c.in-Program.ensures in
    record { name = c.in-Program.name.now; rest = c.in-Program.block.now ∷ []; kids = sym e.kids; name_is = e.classes.0; heads_are = e.classes.1.0 }
