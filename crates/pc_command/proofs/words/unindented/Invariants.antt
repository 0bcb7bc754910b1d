use Rattle.std.proofs.Common.{◌≡◌, drop}
use Rattle.pc_command.specs.Words.{unindented}
use Rattle.pc_command.proofs.words.unindented.Given as goal

-- What is left of the line has the same bytes after its spaces.
abbrev pub invariant-loop-i : goal.invariant-loop-i
invariant-loop-i l = unindented (drop l.i l.line) ≡ unindented l.line
