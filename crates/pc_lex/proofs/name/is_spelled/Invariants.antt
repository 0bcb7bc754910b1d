use Rattle.std.proofs.Common.{◌≡◌, drop}
use Rattle.std.specs.Str.{bytes_eq}
use Rattle.pc_syntax.specs.Words.{lowered}
use Rattle.pc_lex.proofs.name.is_spelled.Given as goal

-- what was passed is the same
abbrev pub invariant-loop-i : goal.invariant-loop-i
invariant-loop-i l = bytes_eq l.small (lowered l.word) ≡ bytes_eq (drop l.i l.small) (lowered (drop l.i l.word))
