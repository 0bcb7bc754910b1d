use Rattle.pc_transcript.proofs.OneReply.{one_reply}
use Rattle.pc_transcript.proofs.laws.one_reply.Goals as goal

pub returns : goal.returns
returns c = one_reply (record {
  load = c.one_load.ensures;
  put = c.one_put.ensures;
  add = c.one_add.ensures;
  fill = c.one_fill.ensures;
  retype = c.one_retype.ensures;
  cut = c.one_cut.ensures;
  undone = c.one_undo.ensures;
  redone = c.one_redo.ensures;
})
