use Rattle.pc_types.specs.Rows.{seen}
use Rattle.pc_type_rules.specs.ExtendsLaws.{Extends-domain}
use Rattle.pc_denoters.proofs.domains.add_domain.Goals as goal

pub returns-clause-extended : goal.returns-clause-extended
returns-clause-extended c = Extends-domain (seen c.args.types.now) (seen c.add_domain.new.self) _ c.in_ok-id.ensures.added
