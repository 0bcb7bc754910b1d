use Rattle.pc_types.specs.Rows.{seen}
use Rattle.pc_closing.specs.ChangesLaws.{changes-self, changes-through}
use Rattle.pc_closing.specs.GatherLaws.{gathers-none, gathers-more}
use Rattle.pc_closing.proofs.search.gather.Goals as goal

pub loop-id-preserved : goal.loop-id-preserved
loop-id-preserved c = (
  changes-through _ _ _ _ _ _ c.loop-id.invariant.0 c.in_ok-note.ensures.changes,
  λ right found. gathers-more c.args.flags.now (seen c.args.types.now) _ _ _ _ _ _ c.loop-id.id (c.loop-id.invariant.1 right found) (c.in_ok-note.ensures.noted right found),
)
