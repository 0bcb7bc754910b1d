use Rattle.std.proofs.Common.{◌≡◌, ◌+◌, ◌-◌, ℕ, false, get_or, length}
use Rattle.pc_domains.proofs.owners.ClosedOwners.reach.Given as goal

-- a flag more says of no owner that its types are closed
abbrev pub invariant-loop-self : goal.invariant-loop-self
invariant-loop-self l = (o : ℕ) → get_or l.self-inside.flags.items o false ≡ get_or l.fn.self o false

abbrev pub decreases-loop-self : goal.decreases-loop-self
decreases-loop-self l = l.at + 1 - length l.self-inside.flags.items
