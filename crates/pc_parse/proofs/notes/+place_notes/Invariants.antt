use Rattle.std.proofs.Common.{drop}
use Rattle.pc_syntax.specs.WellFormed.{size_of}
use Rattle.pc_parse.specs.Comments.{notes_of_lexed}
use Rattle.pc_parse.proofs.Walking.{Walk}
use Rattle.pc_parse.proofs.notes.+place_notes.Given as goal

abbrev pub decreases-place_notes : goal.decreases-place_notes
decreases-place_notes l = size_of l.tree.now

abbrev pub invariant-loop-n : goal.invariant-loop-n
invariant-loop-n l = Walk l.fn.tree (notes_of_lexed l.fn.lexed) l.start (drop l.n l.item-items) (drop l.number l.kids) l.at l.made.items l.number l.count
