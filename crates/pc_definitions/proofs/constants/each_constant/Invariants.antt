use Rattle.std.proofs.Common.{take}
use Rattle.pc_denoters.specs.Goings.{Anywhere, MakesRow, ShowsFacts}
use Rattle.pc_definitions.proofs.constants.each_constant.Given as goal

abbrev pub invariant-loop-kid : goal.invariant-loop-kid
invariant-loop-kid l = MakesRow ShowsFacts Anywhere l.block.0 l.owner.0 l.initial.tables l.tables (take l.kid-index l.kid-items) l.found.items
