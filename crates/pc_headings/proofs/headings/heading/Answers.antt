use Rattle.std.proofs.Common.{List, [], Bool, None, refl, sym, subst}
use Rattle.pc_facts.specs.declared.sighting.Declared.{Declared}
use Rattle.pc_growth.specs.GrowsLaws.{Begins-same}
use Rattle.pc_places.specs.NumberingLaws.{Keeps-texts}
use Rattle.pc_places.specs.Places.{known}
use Rattle.pc_places.specs.Scenes.{SeesNames}
use Rattle.pc_headings.specs.Headed.{Headed}
use Rattle.pc_headings.specs.declared.routine_heading.RoutineHeading.{RoutineHeading}
use Rattle.pc_headings.specs.WholeLaws.{heading-later}
use Rattle.pc_headings.proofs.headings.heading.Goals as goal

pub returns-in_ok-entries : goal.returns-in_ok-entries
returns-in_ok-entries c =
    let a = c.args.tables.now in
    let b = record a { small = c.later_entries.new.small } in
    let r : RoutineHeading = record { entries = c.in_ok-entries.entries; parameters = c.new.result; signature = None } in
    subst (λ (later : Bool). Headed a b c.args.outer.0 c.args.owner.0 later c.args.node.now r) (sym c.if-later.true)
    (heading-later a b c.args.outer.0 c.args.owner.0 c.args.node.now r (Keeps-texts a b refl (Begins-same a.texts.items) refl refl refl) c.new.ensures.items
    (λ means o sees. c.in_ok-entries.ensures (known a) means o refl (subst (λ (ds : List Declared). SeesNames (known a) a.names ds c.args.outer.0 [] means) (sym c.as_slice.ensures.value) sees)))

pub returns-in_ok-found : goal.returns-in_ok-found
returns-in_ok-found c =
    subst (λ (later : Bool). Headed c.args.tables.now c.first_heading.new.tables c.args.outer.0 c.args.owner.0 later c.args.node.now c.in_ok-found.found) (sym c.if-later.false) c.in_ok-found.ensures
