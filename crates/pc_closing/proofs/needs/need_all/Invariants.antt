use Rattle.std.proofs.Common.{◌≡◌, length}
use Rattle.pc_closing.specs.Search.{marks_all, users_all}
use Rattle.pc_closing.proofs.needs.need_all.Given as goal

-- what is left of the fields leads to what all of them do
abbrev pub invariant-loop-rest : goal.invariant-loop-rest
invariant-loop-rest l =
    (marks_all l.flags l.rest l.id l.marks ≡ marks_all l.flags l.fields l.id l.fn.marks) × (users_all l.flags l.rest l.id l.users ≡ users_all l.flags l.fields l.id l.fn.users)

abbrev pub decreases-loop-rest : goal.decreases-loop-rest
decreases-loop-rest l = length l.rest
