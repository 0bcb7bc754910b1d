use Rattle.std.proofs.Common.{◌∙◌, sym, ap}
use Rattle.pc_call_rules.proofs.EntrySteps.{variable-entries}
use Rattle.pc_call_rules.proofs.passing.variable_argument.Goals as goal

pub returns : goal.returns
returns c = λ k t n same formal shows.
    let e1 = c.differs.ensures in
    let e2 = c.place_type.ensures in
    let e4 = shows.place.type.shape in
    variable-entries _ _ _ n.as_place.entries _ _ n.packed_part _ t n.as_place.type (ap (λ j. j.entries.items) c.into_place.ensures ∙ shows.place.entries) c.in_ok-add_note_if.ensures
    c.in_ok-add_note_if-2.ensures c.both-differing.ensures (cc) (sym shows.packed_part)
