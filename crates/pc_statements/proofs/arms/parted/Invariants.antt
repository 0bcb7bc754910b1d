use Rattle.std.proofs.Common.{◌≡◌, map}
use Rattle.pc_statements.proofs.arms.parted.Given as goal

abbrev pub invariant-loop-arm : goal.invariant-loop-arm
invariant-loop-arm l = (l.kids.items ≡ map (λ g. g.at) l.yielded) × (map (λ g. g.labels) l.labelled.items ≡ map (λ g. g.labels) l.yielded)
