use Rattle.std.proofs.Common.{ap, ◌∙◌}
use Rattle.pc_statement_rules.proofs.kids.Handing.add.Goals as goal

pub returns : goal.returns
returns c = λ k ns n s h. c.in_ok-add_part.ensures (λ x. x.as_value.entries) ns n s h.hole (ap (λ j. j.entries.items) c.into_value.ensures ∙ h.value.entries)
