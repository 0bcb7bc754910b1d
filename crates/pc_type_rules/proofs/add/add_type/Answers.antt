use Rattle.pc_type_rules.specs.ExtendsLaws.{Extends-grown}
use Rattle.pc_type_rules.proofs.add.add_type.Goals as goal

pub returns-clause-extended : goal.returns-clause-extended
returns-clause-extended c = Extends-grown _ _ _ c.in_ok-id.ensures.grown
