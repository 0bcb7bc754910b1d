use Rattle.std.proofs.Common.{ap, ◌∙◌}
use Rattle.pc_expression_rules.proofs.MemberSteps.{ordinal-noted, ordinal-shown, AllShow-push}
use Rattle.pc_expression_rules.proofs.members.add_value.Goals as goal

pub returns-clause-entries : goal.returns-clause-entries
returns-clause-entries c = λ k n t h.
    ordinal-noted _ _ n _ _ _ _ _ t c.value_type-known.ensures h.value.type (ap (λ j. j.entries.items) c.into_value.ensures ∙ h.value.entries) c.in_ok-add_note_if.ensures c.is_no_ordinal-refused.ensures

pub returns-clause-types : goal.returns-clause-types
returns-clause-types c = λ k os n t shown h.
    AllShow-push _ _ _ _ os n c.in_ok-push.ensures.items shown (ordinal-shown _ _ n _ _ _ t c.value_type-known.ensures h.value.type c.member_type-ordinal.ensures.shape c.member_type-ordinal.ensures.there)
