use Rattle.std.proofs.Common.{◌≡◌, drop}
use Rattle.pc_lex.specs.Comments.{comment_after}
use Rattle.pc_lex.proofs.comment.read_comment.Given as goal

-- the comment goes on over what was passed
abbrev pub invariant-loop-at : goal.invariant-loop-at
invariant-loop-at l = comment_after l.fn.opening (drop l.fn.opening l.text) ≡ comment_after l.at (drop l.at l.text)
