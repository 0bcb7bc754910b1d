use Rattle.std.proofs.Common.{◌≡◌, ◌+◌, ◌++◌, drop}
use Rattle.pc_syntax.specs.Plain.{forest_of}
use Rattle.pc_syntax.specs.WellFormed.{size_of}
use Rattle.pc_views.specs.Limit.{Agrees}
use Rattle.pc_views.specs.TreeView.{lines_of, kid_lines}
use Rattle.pc_views.proofs.tree.+push_lines.Given as goal

abbrev pub decreases-push_lines : goal.decreases-push_lines
decreases-push_lines l = size_of l.tree.now

-- what is there and the lines of the kids that are left make up the whole
abbrev pub invariant-loop-i : goal.invariant-loop-i
invariant-loop-i l = record {
  path : l.path.items ≡ l.fn.path.items;
  text : Agrees (l.text.items ++ kid_lines l.fn.path.items (l.i + 1) (forest_of (drop l.i l.kid-items))) (l.fn.text.items ++ lines_of l.fn.path.items l.fn.tree);
}
