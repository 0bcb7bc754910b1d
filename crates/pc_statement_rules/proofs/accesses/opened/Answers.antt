use Rattle.std.proofs.Common.{ap, ◌∙◌, ◌++◌}
use Rattle.pc_rules.specs.Components.{no_record}
use Rattle.pc_statement_rules.proofs.OwnSteps.{shown-at}
use Rattle.pc_statement_rules.proofs.accesses.opened.Goals as goal

pub returns : goal.returns
returns c = λ k n same h.
    c.in_ok-add_no_record.ensures k.table n.as_place.type same (shown-at _ _ _ _ (ap (λ j. j.of) c.into_place-place.ensures) h.place.type)
    ∙ ap (λ es. es ++ no_record n.as_place.type) (ap (λ j. j.entries.items) c.into_place-place.ensures ∙ h.place.entries)
