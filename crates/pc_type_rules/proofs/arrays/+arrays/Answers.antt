use Rattle.pc_type_rules.proofs.ArraySteps.{arrays-step}
use Rattle.pc_type_rules.proofs.arrays.+arrays.Goals as goal

pub returns-in_ok-whole-in-len1-up-clause-shows : goal.returns-in_ok-whole-in-len1-up-clause-shows
returns-in_ok-whole-in-len1-up-clause-shows t c =
    arrays-step _ _ _ c.args.here.now c.args.packed c.args.i _ c.args.indexes.now c.index-item.result c.args.element _ _ _ c.in_ok-inner-in-len1-up.ensures.extended c.requires c.in_ok-after-in-len1-up.ensures c.in-len1-up.len_at_least c.index-item.is c.value_type.ensures
    c.in_ok-inner-in-len1-up.ensures.shows c.in_ok-whole-in-len1-up.ensures.shows
