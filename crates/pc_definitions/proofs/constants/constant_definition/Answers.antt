use Rattle.pc_denoters.specs.Goings.{Anywhere}
use Rattle.pc_definitions.specs.Rows.{makes-hole}
use Rattle.pc_definitions.proofs.constants.constant_definition.Goals as goal

pub returns-in_ok-found-in-Constdef : goal.returns-in_ok-found-in-Constdef
returns-in_ok-found-in-Constdef c = c.in_ok-found-in-Constdef.ensures c.args.node.now c.in-Constdef.ensures.proper c.in-Constdef.ensures.value

pub returns-in-Hole : goal.returns-in-Hole
returns-in-Hole c =
    makes-hole Anywhere c.args.block.0 c.args.owner.0 c.args.tables.now c.in-Hole.sort c.hole.result c.hole.ensures c.args.node.now c.in-Hole.ensures.proper c.in-Hole.ensures.value
