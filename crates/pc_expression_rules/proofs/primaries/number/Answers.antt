use Rattle.std.proofs.Common.{[], refl}
use Rattle.pc_expression_rules.proofs.ResultSteps.{known, noted}
use Rattle.pc_expression_rules.proofs.primaries.number.Goals as goal

pub returns : goal.returns
returns c = λ k w t.
    c.expression.ensures k w [] _ _ refl
    (noted _ _ _ _ _ _ c.new-entries.ensures.items c.in_ok-add_note_if.ensures c.is_too_large.ensures)
    (known _ _ _ _ t c.integer.ensures.shape c.integer.ensures.there)
