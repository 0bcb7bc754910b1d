use Rattle.pc_types.specs.Rows.{seen}
use Rattle.pc_type_rules.proofs.NodeSteps.{here-shown}
use Rattle.pc_type_rules.proofs.names.type_of_sighting.Goals as goal

pub returns-in-Here : goal.returns-in-Here
returns-in-Here c = λ k n f table h. here-shown k (seen c.args.types.now) n _ c.in-Here.declared f _ c.in-Here.is table c.type_of_declared.ensures h
