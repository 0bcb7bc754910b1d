use Rattle.std.proofs.Common.{◌≡◌, drop}
use Rattle.pc_syntax.specs.Fits.{takes_from, kinds_of}
use Rattle.pc_syntax.proofs.fits.takes_kids.Given as goal

-- what is left decides
abbrev pub invariant-loop-i : goal.invariant-loop-i
invariant-loop-i l = takes_from l.fn.kind 0 (kinds_of l.kids) ≡ takes_from l.fn.kind l.i (kinds_of (drop l.i l.kids))
