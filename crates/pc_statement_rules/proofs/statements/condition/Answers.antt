use Rattle.std.proofs.Common.{[], ◌∷◌}
use Rattle.pc_rules.specs.Statements.{no_condition}
use Rattle.pc_statement_rules.proofs.OwnSteps.{shown-at}
use Rattle.pc_statement_rules.proofs.statements.condition.Goals as goal

pub returns : goal.returns
returns c = λ k w a ns same h all.
    c.in_ok-finish_with.ensures k w (a ∷ ns) (no_condition a.as_value.type) []
    (c.in_ok-add_all.ensures k (a ∷ []) ns (c.in_ok-add.ensures k [] a (c.new-handing.ensures k) h) all)
    (c.in_ok-own.ensures k.table a.as_value.type same (shown-at _ _ _ _ c.value_type.ensures h.value.type))
