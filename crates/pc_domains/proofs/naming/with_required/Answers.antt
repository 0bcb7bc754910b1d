use Rattle.std.proofs.Common.{Bool, None, refl, sym, subst}
use Rattle.pc_domains.specs.NamingLaws.{names-without}
use Rattle.pc_domains.specs.Types.{ShowsBlockNames}
use Rattle.pc_domains.specs.declared.naming.BlockNames.{BlockNames}
use Rattle.pc_domains.proofs.naming.with_required.Goals as goal

pub returns-else-is_program-clause-shows : goal.returns-else-is_program-clause-shows
returns-else-is_program-clause-shows c = λ ns h.
    let b : BlockNames = record { ids = c.args.ids; required = None } in
    subst (λ (is : Bool). ShowsBlockNames c.args.tables.now.names.texts is ns b) (sym c.if-is_program.false) (names-without c.args.tables.now.names.texts ns b h refl)
