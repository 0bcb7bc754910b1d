use Rattle.std.proofs.Common.{◌≡◌, take, map}
use Rattle.pc_statements.proofs.arms.values_of.Given as goal

abbrev pub invariant-loop-kid : goal.invariant-loop-kid
invariant-loop-kid l = l.values.items ≡ map (λ f. f.constant) (take l.kid-index l.kids)
