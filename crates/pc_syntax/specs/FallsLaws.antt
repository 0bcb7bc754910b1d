-- A kid has fewer nodes than its parent.
use Rattle.std.specs.Prelude.{◌+◌, ◌≤◌, List, [], ◌∷◌}
use Rattle.std.proofs.Common.{arith}
use denote.Param.Weighed.{most}
use Rattle.pc_syntax.specs.declared.tree.Tree.TheInside.{Inside}
use Rattle.pc_syntax.specs.declared.tree.Tree.TheDeep.{deep-Tree}
use Rattle.pc_syntax.specs.Plain.{Plain, forest_of, node}
use Rattle.pc_syntax.specs.WellFormed.{size_of, size_in}
use Rattle.pc_syntax.specs.View.{plain_of}

most_le-size_in : (ks : List Plain) → most (λ k. size_of k + 1) ks ≤ 1 + size_in (forest_of ks)
unfolding size_in
most_le-size_in [] = omega arith
most_le-size_in (k ∷ ks) = omega (arith, most_le-size_in ks)

pub size_falls : (a : Inside) → deep-Tree a ≤ size_of (plain_of a.node.value)
unfolding node
size_falls a = omega (arith, most_le-size_in a.node.value.kids.items)
