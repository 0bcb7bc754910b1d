use Rattle.pc_places.specs.Places.{known}
use Rattle.pc_headings.specs.AddsLaws.{AddsParameters-row}
use Rattle.pc_headings.proofs.groups.parameters.Goals as goal

pub returns : goal.returns
returns c =
    let t = c.args.tables.now in
    AddsParameters-row t c.add_parameters.new.tables c.args.outer.0 c.args.owner.0 c.args.list.now c.new-listed.result c.add_parameters.new.listed c.in_ok-part.part c.requires.class
    (c.new-listed.ensures (known t) t.declarations.items) c.in_ok-part.ensures
