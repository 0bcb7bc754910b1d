use Rattle.std.proofs.Common.{◌≡◌, length}
use Rattle.pc_rules.specs.Errors.{from_place}
use Rattle.pc_resolve.proofs.entries.seen_from_root.Given as goal

abbrev pub invariant-loop-last : goal.invariant-loop-last
invariant-loop-last l = from_place l.rest l.seen.items ≡ from_place l.place l.fn.entries.items

abbrev pub decreases-loop-last : goal.decreases-loop-last
decreases-loop-last l = length l.rest
