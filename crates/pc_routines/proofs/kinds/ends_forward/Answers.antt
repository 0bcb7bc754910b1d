use Rattle.std.proofs.Common.{ap, ◌∙◌}
use Rattle.pc_syntax.specs.Plain.{forest_of}
use Rattle.pc_syntax.specs.PartsLaws.{forest_of-kids_of}
use Rattle.pc_scope.specs.Headings.{ends_forward}
use Rattle.pc_routines.proofs.kinds.ends_forward.Goals as goal

pub loop-kid-init : goal.loop-kid-init
loop-kid-init c = ap (λ ks. ends_forward (forest_of ks)) c.kid_slice-kid-items.ensures.value ∙ ap ends_forward (forest_of-kids_of c.args.routine.now)
