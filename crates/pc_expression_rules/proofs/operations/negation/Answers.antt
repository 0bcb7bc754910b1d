use Rattle.std.proofs.Common.{refl, sym}
use Rattle.pc_expression_rules.proofs.ResultSteps.{moved}
use Rattle.pc_expression_rules.proofs.operations.negation.Goals as goal

pub returns : goal.returns
returns c = λ k w a t l.
    c.in_ok-one_operand.ensures k w a _ l
    (moved _ _ _ _ _ (sym t) refl (c.negation_type-of.ensures _ (moved _ _ _ _ _ t (sym c.value_type.ensures) l.value.type)))
