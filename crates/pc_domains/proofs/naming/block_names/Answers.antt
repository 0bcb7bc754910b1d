use Rattle.pc_domains.specs.NamingLaws.{OnlyNames-then}
use Rattle.pc_domains.proofs.naming.block_names.Goals as goal

pub returns-clause-names : goal.returns-clause-names
returns-clause-names c = OnlyNames-then c.args.tables.now c.type_name_ids.new.tables c.with_required.new.tables c.in_ok-ids.ensures.names c.in_ok-all.ensures.names
