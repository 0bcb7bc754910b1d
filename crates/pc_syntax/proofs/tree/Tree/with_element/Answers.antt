use Rattle.pc_syntax.specs.Edits.{with_more}
use Rattle.pc_syntax.proofs.More.{proper-at}
use Rattle.pc_syntax.proofs.tree.Tree.with_element.Goals as goal

pub of_text-requires : goal.of_text-requires
of_text-requires c =
    let list = c.args.list.now in
    let proper = proper-at c.args.steps.now c.args.self.now list (with_more list c.args.i c.args.piece.now) c.requires.place c.requires.proper in
    rw (c.kind.ensures.value, c.in_ok-text.ensures.word, c.in_ok-text.ensures.notes, c.in_ok-insert.ensures.items, c.in_ok-kids.ensures, c.kid_slice.ensures.value, c.in_ok-copy.ensures) proper
