use Rattle.std.proofs.Common.{sym, ◌∙◌}
use Rattle.pc_domains.specs.SiftingLaws.{sifts-told}
use Rattle.pc_domains.proofs.sifting.sift_name.Goals as goal

pub returns-in_ok-retell : goal.returns-in_ok-retell
returns-in_ok-retell c =
    let told = c.in_ok-retell.ensures.retold.2 in
    sifts-told c.args.whole.now c.args.block.0 c.args.name c.in-Some.declared c.args.tables.now c.retell.new.tables (λ s. sym c.in-Some.is ∙ c.unknown_type.ensures s) told.types told.names.texts
    c.in_ok-retell.ensures.moves c.in_ok-retell.ensures.place
