use Rattle.std.proofs.Common.{◌≡◌, ◌++◌, drop}
use Rattle.pc_syntax.specs.WellFormed.{size_of}
use Rattle.pc_types.specs.Rows.{seen}
use Rattle.pc_views.specs.Limit.{Agrees}
use Rattle.pc_expr_view.specs.ToldText.{behind_node, node_told}
use Rattle.pc_expr_view.proofs.Rows.{behind_list, list_told}
use Rattle.pc_expr_view.proofs.lines.+push_lines.Given as goal

abbrev pub decreases-push_lines : goal.decreases-push_lines
decreases-push_lines l = size_of l.node.now

-- what is there and the lines of the kids that are left make up the whole
abbrev pub invariant-loop-kid : goal.invariant-loop-kid
invariant-loop-kid l = record {
  rest : behind_list (drop l.kid-index l.kid-items) l.rest ≡ behind_node l.node l.fn.told;
  text : Agrees (l.text.items ++ list_told (seen l.types) l.below (drop l.kid-index l.kid-items) l.rest) (l.fn.text.items ++ node_told (seen l.types) l.level l.node l.fn.told);
}
