use Rattle.std.proofs.Common.{◌≡◌, length, drop}
use Rattle.std.specs.Prelude.{IsTrue}
use Rattle.pc_syntax.specs.WellFormed.{depth_of}
use Rattle.pc_pretty.specs.Printed.{pieces_of}
use Rattle.pc_pretty.proofs.Walks.{Walk}
use Rattle.pc_pretty.proofs.Marking.{Marking}
use Rattle.pc_pretty.proofs.printing.+print_node.Given as goal

abbrev pub decreases-print_node : goal.decreases-print_node
decreases-print_node l = depth_of l.tree.now

abbrev pub invariant-loop-n : goal.invariant-loop-n
invariant-loop-n l = record {
  walk : Walk (pieces_of l.fn.tree l.fn.place) l.fn.out.items l.kind l.word l.indentation (drop l.n l.item-items) (drop l.number l.kids) l.n l.kept l.out.items l.span;
  marking : IsTrue l.asked →
      Marking l.fn.tree l.fn.place l.fn.out.items l.fn.spans.items l.kind l.word l.indentation l.item-items (drop l.n l.item-items) l.kids (drop l.number l.kids) l.n l.kept l.out.items l.spans.items;
}
