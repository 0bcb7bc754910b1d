use Rattle.std.proofs.Common.{◌++◌, ◌∙◌, ap, sym}
use Rattle.pc_name_rules.specs.Uses.{used_entries}
use Rattle.pc_name_rules.specs.declared.allowed.Allowed.TheVariants as allowed
use Rattle.pc_denoters.specs.NameMakes.{makes-type_name}
use Rattle.pc_denoters.proofs.names.type_at_name.Goals as goal

pub returns : goal.returns
returns c = λ owner here p.
    makes-type_name c.args.tables.now c.name_at_place.new.tables c.args.block.0 owner here p c.args.name.now c.in_ok-named.named c.add_name_entries.new.entries.items c.in_ok-found.found c.requires.name c.in_ok-named.ensures.keeps
    (λ o out l u place. c.in_ok-named.ensures.shows o out l c.requires.name u place)
    (λ k a shown word. c.in_ok-add_name_entries.ensures k a shown (word ∙ sym c.word.ensures) ∙ ap (λ es. es ++ used_entries allowed.Type a) c.new-entries.ensures.items)
    (λ k w a table shown entries. c.in_ok-found.ensures k w a table shown entries)
