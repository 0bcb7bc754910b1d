use Rattle.std.proofs.Common.{ap, sym, ◌∙◌}
use Rattle.pc_rules.specs.Places.{times_in}
use Rattle.pc_counts.proofs.before.times_before.Goals as goal

pub returns-clause-times : goal.returns-clause-times
returns-clause-times c = λ passed h. ap (times_in passed) (sym c.defined_word.ensures) ∙ c.in_ok-times.ensures.times passed h
