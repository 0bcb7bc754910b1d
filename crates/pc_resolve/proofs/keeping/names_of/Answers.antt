use Rattle.std.proofs.Common.{refl}
use Rattle.pc_resolve.proofs.KeepLemmas.{shows-at-end}
use Rattle.pc_resolve.proofs.keeping.names_of.Goals as goal

pub returns : goal.returns
returns c =
    shows-at-end c.args.tables.now c.args.declared.items c.args.block.0 c.args.site.now
    (record { owner = c.args.site.now.owner; key = c.in_ok-key.key; is_later = c.args.site.now.is_later; names = c.in_ok-names.names }) c.in_ok-names.ensures refl c.in_ok-key.ensures refl
