use Rattle.std.proofs.Common.{[], refl}
use Rattle.pc_expression_rules.proofs.ResultSteps.{known}
use Rattle.pc_expression_rules.proofs.primaries.nil.Goals as goal

pub returns : goal.returns
returns c = λ k w t. c.expression.ensures k w [] _ _ refl c.new.ensures.items (known _ _ _ _ t c.nil.ensures.shape c.nil.ensures.there)
