use Rattle.std.proofs.Common.{◌∙◌, ap}
use Rattle.pc_names.specs.declared.slot.Slot.{Slot}
use Rattle.pc_places.specs.ReboundLaws.{is_passed-at}
use Rattle.pc_places.proofs.steps.is_passed.Goals as goal

pub returns : goal.returns
returns c = λ owner out l n number at. ap (λ (s : Slot). s.passed) c.slot.ensures ∙ is_passed-at c.args.tables.now c.args.block.0 c.args.name.0 owner out l n number at
