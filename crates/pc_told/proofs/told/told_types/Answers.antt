use Rattle.std.proofs.Common.{◌≡◌, refl, ap}
use Rattle.pc_told.proofs.told.told_types.Goals as goal

pub returns-clause-found : goal.returns-clause-found
returns-clause-found c =
    let old = c.args.tables.now in
    let same : c.replace.result.items ≡ old.texts.items = ap (λ ts. ts.items) c.replace.ensures.value in
    c.in_ok-told.ensures.found old (record { types = refl; names = refl; declarations = refl; signatures = refl }) same c.new.ensures.items
