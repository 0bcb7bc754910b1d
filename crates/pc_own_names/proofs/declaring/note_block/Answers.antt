use Rattle.std.proofs.Common.{refl, sym, subst}
use Rattle.pc_scope.specs.Blocks.{block_kids}
use Rattle.pc_own_names.specs.Noting.{Notes}
use Rattle.pc_own_names.specs.NotingLaws.{Notes-none}
use Rattle.pc_own_names.specs.Walking.{in_trees}
use Rattle.pc_own_names.specs.WalkingLaws.{block-below}
use Rattle.pc_own_names.proofs.declaring.note_block.Goals as goal

pub returns-in_default : goal.returns-in_default
returns-in_default c =
    let texts = c.args.names.now.texts in
    let found = c.args.found.now.items in
    subst (λ f. Notes (in_trees f) texts texts found found) (sym (c.in_default.ensures.none refl)) (Notes-none texts found)

pub returns : goal.returns
returns c =
    subst (λ es. Notes es c.args.names.now.texts c.note_below.new.names.texts c.args.found.now.items c.note_below.new.found.items)
    (block-below c.in-Some.block.now (block_kids c.args.routine.now.kids) c.in-Some.ensures.kind c.in-Some.ensures.some) c.in_ok-note_below.ensures
