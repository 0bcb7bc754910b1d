use Rattle.pc_places.specs.ConstantLaws.{constant-sign}
use Rattle.pc_places.proofs.constants.signed_part.Goals as goal

pub returns-clause-sign : goal.returns-clause-sign
returns-clause-sign c = constant-sign c.args.node.now c.in-Csign.constant.now c.in-Csign.sign c.requires c.in-Csign.ensures.value
