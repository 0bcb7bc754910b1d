use Rattle.std.proofs.Common.{ap, ◌∙◌}
use Rattle.pc_syntax.specs.Plain.{forest_of}
use Rattle.pc_syntax.specs.PartsLaws.{forest_of-kids_of}
use Rattle.pc_scope.specs.Blocks.{block_kids}
use Rattle.pc_own_names.proofs.declaring.block_of.Goals as goal

pub loop-kid-init : goal.loop-kid-init
loop-kid-init c = ap (λ ks. block_kids (forest_of ks)) c.kid_slice-kid-items.ensures.value ∙ ap block_kids (forest_of-kids_of c.args.routine.now)
