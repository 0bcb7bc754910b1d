use Rattle.std.proofs.Common.{◌≡◌, ℕ, ◌-◌, None, get_or, length}
use Rattle.pc_decl_view.proofs.laters.grow.Given as goal

-- nothing is found at a number that was added
abbrev pub invariant-loop-laters : goal.invariant-loop-laters
invariant-loop-laters l = (n : ℕ) → get_or l.laters.items n None ≡ get_or l.initial.laters.items n None

abbrev pub decreases-loop-laters : goal.decreases-loop-laters
decreases-loop-laters l = l.count - length l.laters.items
