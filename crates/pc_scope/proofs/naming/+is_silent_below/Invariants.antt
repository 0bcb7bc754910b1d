use Rattle.std.proofs.Common.{ℕ, ◌<◌, get_or}
use Rattle.pc_syntax.specs.Plain.{Plain}
use Rattle.pc_syntax.specs.WellFormed.{size_of}
use Rattle.pc_scope.specs.Entries.{IsSilent}
use Rattle.pc_scope.proofs.naming.+is_silent_below.Given as goal

abbrev pub decreases-is_silent_below : goal.decreases-is_silent_below
decreases-is_silent_below l = size_of l.tree.now

-- the kids that were passed are silent
abbrev pub invariant-loop-kid : goal.invariant-loop-kid
invariant-loop-kid l = (j : ℕ) (d : Plain) → j < l.kid-index → IsSilent (get_or l.kid-items j d)
