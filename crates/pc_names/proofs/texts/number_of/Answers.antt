use Rattle.std.proofs.Common.{◌∙◌}
use Rattle.pc_names.proofs.NumberSteps.{position-number_of}
use Rattle.pc_names.proofs.texts.number_of.Goals as goal

pub returns : goal.returns
returns c = c.get_index_of.ensures.index ∙ position-number_of (λ k. k.items) c.args.texts.now.keys c.args.small.now
