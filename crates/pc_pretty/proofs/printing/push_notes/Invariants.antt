use Rattle.std.proofs.Common.{◌≡◌, ◌++◌, take}
use Rattle.pc_pretty.specs.Printed.{note_text, behind}
use Rattle.pc_pretty.proofs.printing.push_notes.Given as goal

abbrev pub invariant-loop-note : goal.invariant-loop-note
invariant-loop-note l = record {
  text : l.out.items ≡ l.fn.out.items ++ note_text (take l.note-index l.notes) l.fn.place;
  stands : l.at ≡ behind (take l.note-index l.notes) l.fn.place;
}
