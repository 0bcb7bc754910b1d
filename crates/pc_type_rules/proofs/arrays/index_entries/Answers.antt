use Rattle.pc_types.specs.Rows.{seen}
use Rattle.pc_type_rules.proofs.ArraySteps.{entries-so-far, one-longer}
use Rattle.pc_type_rules.proofs.arrays.index_entries.Goals as goal

pub loop-index-preserved : goal.loop-index-preserved
loop-index-preserved c = (
  entries-so-far (seen c.args.types.now) c.loop-index.yielded c.in-Some.index _ _ _ c.loop-index.i c.in_ok-add_kid.ensures c.loop-index.invariant.1 c.loop-index.invariant.0 c.in_ok-below.ensures,
  one-longer c.loop-index.yielded c.in-Some.index _ _ c.in_ok-i.ensures c.loop-index.invariant.1,
)
