use Rattle.std.proofs.Common.{ℕ, List, [], ◌++◌, codes, refl, ap, sym, subst, ◌∙◌}
use Rattle.pc_rules.specs.Entries.{note_if, quoted}
use Rattle.pc_rules.specs.Meanings.{find}
use Rattle.pc_rules.specs.Routines.{bare}
use Rattle.pc_facts.specs.declared.sighting.Declared.{Declared}
use Rattle.pc_places.specs.NumberingLaws.{Keeps-types}
use Rattle.pc_places.specs.Places.{known}
use Rattle.pc_places.specs.Scenes.{SeesNames}
use Rattle.pc_headings.specs.HeadingLaws.{result-step}
use Rattle.pc_headings.proofs.results.result_type_of.Goals as goal

pub returns : goal.returns
returns c =
    let a = c.args.tables.now in
    let used = c.in_ok-used.used in
    let more = c.in_ok-number.ensures.extended in
    let b = record a { types = c.number_of.new.types; small = c.used_type.new.small } in
    let wrong = c.is_complex-is_wrong.result in
    let keeps = Keeps-types a b (record { more = more.more_shapes; is = more.shapes }) more.owners (record { more = more.more_domains; is = more.domains }) refl refl refl refl in
    result-step a b c.args.outer.0 c.args.node.now used c.in_ok-number.number wrong _ keeps
    (λ means l using sees. c.in_ok-used.ensures (known a) means l using refl (subst (λ (ds : List Declared). SeesNames (known a) a.names ds c.args.outer.0 [] (find (bare means) l)) (sym c.as_slice.ensures.value) sees))
    c.is_complex-is_wrong.ensures c.in_ok-number.ensures.number
    (c.in_ok-add_note_if.ensures ∙ ap (λ (w : List ℕ). used.entries.items ++ note_if wrong 22 (quoted (codes "result type not simple") w)) c.word.ensures)
