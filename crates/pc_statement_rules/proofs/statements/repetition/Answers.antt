use Rattle.std.proofs.Common.{[], ◌∷◌}
use Rattle.pc_rules.specs.Statements.{no_condition}
use Rattle.pc_statement_rules.proofs.OwnSteps.{shown-at}
use Rattle.pc_statement_rules.proofs.statements.repetition.Goals as goal

pub returns : goal.returns
returns c = λ k w a b same g h.
    c.in_ok-finish_with.ensures k w (a ∷ b ∷ []) (no_condition b.as_value.type) []
    (c.in_ok-add-2.ensures k (a ∷ []) b (c.in_ok-add.ensures k [] a (c.new-handing.ensures k) g) h)
    (c.in_ok-own.ensures k.table b.as_value.type same (shown-at _ _ _ _ c.value_type.ensures h.value.type))
