use Rattle.std.proofs.Common.{List, Option, ap, sym, ◌∙◌, subst}
use Rattle.pc_types.specs.declared.form.TypeId.{TypeId}
use Rattle.pc_rules.specs.NameClasses.{is_reference_class}
use Rattle.pc_facts.specs.declared.sighting.Formal.{Formal as Numbered}
use Rattle.pc_type_rules.specs.Denoted.{IsNumber}
use Rattle.pc_headings.specs.ListedLaws.{formals-known}
use Rattle.pc_headings.specs.Listing.{ShowsFormalsOf, with_formal}
use Rattle.pc_headings.proofs.names.add_formal.Goals as goal

pub returns-in_ok-push-in-Some : goal.returns-in_ok-push-in-Some
returns-in_ok-push-in-Some c = λ k gs n m s name group.
    let w = c.args.is_whole in
    let fs = c.args.formals.now.items in
    let b = is_reference_class m.class in
    subst (λ (xs : List Numbered). ShowsFormalsOf k w xs (with_formal gs n b m.type)) (sym c.in_ok-push-in-Some.ensures.items)
    (formals-known k w fs gs (record { name = c.args.name; by_place = c.is_reference_class.result; of = c.in-Some.of }) n b m.type s name
    (c.is_reference_class.ensures ∙ ap is_reference_class group.class)
    (subst (λ (i : Option TypeId). IsNumber k.table i m.type) c.in-Some.is group.number))
