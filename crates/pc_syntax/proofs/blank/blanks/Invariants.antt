use Rattle.std.proofs.Common.{◌≡◌, map, take}
use Rattle.pc_syntax.specs.Blanks.{blank}
use Rattle.pc_syntax.proofs.blank.blanks.Given as goal

abbrev pub invariant-loop-class : goal.invariant-loop-class
invariant-loop-class l = l.kids.items ≡ map blank (take l.class-index l.places)
