use Rattle.std.proofs.Common.{◌++◌, ◌∙◌, ap, sym, subst}
use Rattle.pc_rules.specs.Attributes.{at_kid}
use Rattle.pc_denoters.specs.EnumMakes.{makes-enum}
use Rattle.pc_denoters.specs.Passing.{ArePassed}
use Rattle.pc_denoters.proofs.enumerations.enumeration.Goals as goal

pub returns : goal.returns
returns c = λ p.
    let list = c.in_ok-list.list in
    let done = c.in_ok-complete_elements.ensures in
    makes-enum c.args.tables.now c.pass_names.new.tables c.enumerated.new.types c.complete_elements.new.tables c.args.block.0 c.args.owner c.args.here p c.args.names.now list c.add_kid.new.entries.items c.value_type.result c.in_ok-found.found
    c.requires.there.here_there c.in_ok-list.ensures.proper c.requires.names c.in_ok-list.ensures.shows (c.in_ok-add_kid.ensures ∙ ap (λ es. es ++ at_kid 1 list.entries.items) c.new-entries.ensures.items)
    (λ k w l a def hole names entries. c.in_ok-found.ensures.shows k w l a def hole (c.from_vec-smalls.ensures ∙ names) entries) c.in_ok-found.ensures.extended c.value_type.ensures
    (record {
      moves = done.moves;
      place = λ out l q ns ty place h shown. done.place out l q ns ty place (subst (λ es. ArePassed c.pass_names.new.tables.names.texts q es ns) (sym c.deref.ensures.value) h) shown;
    })
