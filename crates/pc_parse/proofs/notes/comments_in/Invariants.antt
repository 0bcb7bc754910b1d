use Rattle.std.proofs.Common.{◌≡◌, ◌+◌, ◌-◌, ◌^◌, min, drop, length}
use Rattle.pc_parse.proofs.LexedNotes.{counted}
use Rattle.pc_parse.proofs.notes.comments_in.Given as goal

-- what is left makes up the rest
abbrev pub invariant-loop-symbol : goal.invariant-loop-symbol
invariant-loop-symbol l = min (length l.lexed.tail.items + counted l.symbol-items) (2 ^ 64 - 1) ≡ min (l.count + counted (drop l.symbol-index l.symbol-items)) (2 ^ 64 - 1)
