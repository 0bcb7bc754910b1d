use Rattle.std.proofs.Common.{◌≡◌, take}
use Rattle.pc_syntax.proofs.place.copies.Given as goal

abbrev pub invariant-loop-tree : goal.invariant-loop-tree
invariant-loop-tree l = l.all.items ≡ take l.tree-index l.trees
