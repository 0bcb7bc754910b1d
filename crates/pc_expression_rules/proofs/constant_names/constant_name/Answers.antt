use Rattle.std.proofs.Common.{sym}
use Rattle.pc_expression_rules.proofs.ConstantSteps.{kid-made}
use Rattle.pc_expression_rules.proofs.constant_names.constant_name.Goals as goal

pub returns : goal.returns
returns c = λ k w n t shown is_word.
    c.constant_node.ensures k w _ _ _ (sym shown.hole)
    (kid-made 1 _ _ _ _ _ c.new-name.ensures.items c.new-entries.ensures.items (c.in_ok-add_name_entries.ensures k n shown is_word) c.in_ok-add_kid.ensures)
    (λ _ _. c.sighted_value-value.ensures k _ _ t shown.found)
