use Rattle.std.proofs.Common.{refl, sym}
use Rattle.pc_expression_rules.proofs.ResultSteps.{moved}
use Rattle.pc_expression_rules.proofs.operations.sum.Goals as goal

pub returns : goal.returns
returns c = λ k w a b t l r.
    c.in_ok-two_operands.ensures k w a b _ l r
    (moved _ _ _ _ _ (sym t) refl (c.sum_type-of.ensures _ _ (moved _ _ _ _ _ t (sym c.value_type.ensures) l.value.type) (moved _ _ _ _ _ t (sym c.value_type-2.ensures) r.value.type)))
