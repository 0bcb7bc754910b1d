use Rattle.std.proofs.Common.{List, [], ◌++◌, refl, ap, sym, subst, ◌∙◌}
use Rattle.pc_rules.specs.Attributes.{Entry, at_kid}
use Rattle.pc_rules.specs.Meanings.{find}
use Rattle.pc_rules.specs.Routines.{bare}
use Rattle.pc_facts.specs.declared.sighting.Declared.{Declared}
use Rattle.pc_places.specs.Places.{known}
use Rattle.pc_places.specs.Scenes.{SeesNames}
use Rattle.pc_places.specs.NumberingLaws.{Keeps-types}
use Rattle.pc_headings.specs.StepLaws.{group-step}
use Rattle.pc_headings.proofs.groups.add_group.Goals as goal

pub returns : goal.returns
returns c =
    let a = c.args.tables.now in
    let used = c.in_ok-used.used in
    let more = c.in_ok-number.ensures.extended in
    let b = record a { types = c.number_of.new.types; small = c.used_type.new.small } in
    let keeps = Keeps-types a b (record { more = more.more_shapes; is = more.shapes }) more.owners (record { more = more.more_domains; is = more.domains }) refl refl refl refl in
    group-step a b c.add_names.new.tables c.args.outer.0 c.args.owner c.args.named c.args.listed.now c.add_names.new.listed c.args.names.now c.args.type_name.now used c.in_ok-number.number c.in_ok-own.own.items c.has_hole.result _
    c.requires.there keeps
    (λ means l using sees. c.in_ok-used.ensures (known a) means l using refl (subst (λ (ds : List Declared). SeesNames (known a) a.names ds c.args.outer.0 [] (find (bare means) l)) (sym c.as_slice.ensures.value) sees))
    c.in_ok-number.ensures.number c.in_ok-own.ensures c.has_hole.ensures c.either-hole.ensures
    (c.in_ok-add_kid-2.ensures ∙ ap (λ (es : List Entry). es ++ at_kid 2 used.entries.items) (c.in_ok-add_kid.ensures ∙ ap (λ (es : List Entry). es ++ at_kid 1 c.in_ok-own.own.items) c.new-entries.ensures.items))
