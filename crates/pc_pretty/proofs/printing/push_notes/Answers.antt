use Rattle.std.proofs.Common.{sym}
use Rattle.pc_pretty.proofs.Walks.{notes_more, behind_more}
use Rattle.pc_pretty.proofs.printing.push_notes.Goals as goal

pub loop-note-preserved : goal.loop-note-preserved
loop-note-preserved c = record {
  text = notes_more c.args.notes.now c.note-item.result c.bytes.result.now c.loop-note.note-index c.args.place c.loop-note.at c.args.out.now.items c.loop-note.out.items c.push_gap.new.out.items c.extend_from_slice.new.self.items
      c.loop-note-test.true (sym c.note-item.is) c.bytes.ensures.value c.loop-note.invariant.text c.loop-note.invariant.stands c.in_ok-push_gap.ensures c.in_ok-extend_from_slice.ensures.items;
  stands = behind_more c.args.notes.now c.note-item.result c.loop-note.note-index c.args.place c.loop-note.at c.inner.result c.loop-note-test.true c.loop-note.invariant.stands c.inner.ensures;
}
