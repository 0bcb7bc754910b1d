use Rattle.std.proofs.Common.{ap, ◌∙◌, not, ◌||◌}
use Rattle.pc_names.specs.declared.slot.Slot.{Slot}
use Rattle.pc_definitions.specs.DefineLaws.{is_there}
use Rattle.pc_definitions.specs.VariableNamesLaws.{some-there, new-at}
use Rattle.pc_definitions.proofs.variables.is_new_name.Goals as goal

pub returns : goal.returns
returns c = λ owner out l n number place.
    let s = c.slot-slot.result in
    ap not c.either-old.ensures ∙ ap (λ b. not (s.passed || b)) (c.is_some-known.ensures ∙ some-there s.known) ∙ ap (λ (x : Slot). not (x.passed || is_there x.known)) c.slot-slot.ensures
    ∙ new-at c.args.tables.now c.args.block.0 c.args.name.0 owner out l n number place
