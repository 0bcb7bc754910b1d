use Rattle.pc_resolve.proofs.KeepLemmas.{declares-names}
use Rattle.pc_resolve.proofs.keeping.names_declared.Goals as goal

pub returns : goal.returns
returns c =
    declares-names c.args.tables.now c.args.site.now c.args.node.now c.in_ok-given.given.texts c.in_ok-declared.declared.items c.in_ok-given.ensures c.in_ok-declared.ensures
