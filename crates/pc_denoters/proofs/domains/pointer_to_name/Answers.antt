use Rattle.std.proofs.Common.{◌++◌, ◌∙◌, ap, sym, subst}
use Rattle.pc_syntax.specs.Words.{lowered}
use Rattle.pc_types.specs.Rows.{seen}
use Rattle.pc_name_rules.specs.Uses.{used_entries}
use Rattle.pc_name_rules.specs.declared.allowed.Allowed.TheVariants as allowed
use Rattle.pc_denoters.specs.PointerMakes.{IsDomain, makes-pointer}
use Rattle.pc_denoters.proofs.domains.pointer_to_name.Goals as goal

pub returns : goal.returns
returns c = λ p.
    let t1 = c.name_at_place.new.tables in
    let s2 = c.domain_of.new.types in
    let named = c.in_ok-named.named in
    let d = c.in_ok-domain.domain in
    makes-pointer c.args.tables.now t1 s2 c.pointer.new.types c.args.block.0 c.args.owner.0 c.args.here p c.args.name.now named c.add_name_entries.new.entries.items d c.in_ok-found.found c.requires.there c.requires.name c.in_ok-named.ensures.keeps
    (λ o out l u place. c.in_ok-named.ensures.shows o out l c.requires.name u place)
    (λ k a shown word. c.in_ok-add_name_entries.ensures k a shown (word ∙ sym c.word.ensures) ∙ ap (λ es. es ++ used_entries allowed.Type a) c.new-entries.ensures.items)
    (subst (λ w. IsDomain (seen t1.types) (seen s2) c.args.owner.0 (lowered w) named d) c.word-2.ensures (λ k l f table there is shown. c.in_ok-domain.ensures.domain k l f table there is shown))
    c.in_ok-domain.ensures.there c.in_ok-domain.ensures.extended (λ k w l a table def shown there is entries. c.in_ok-found.ensures.shows k w l a table def shown there is entries) c.in_ok-found.ensures.extended
