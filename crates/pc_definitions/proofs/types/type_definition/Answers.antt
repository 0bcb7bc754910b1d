use Rattle.pc_syntax.specs.declared.kind.Kind.TheVariants as kind
use Rattle.pc_definitions.specs.Numbered.{AtDefinition}
use Rattle.pc_definitions.specs.Rows.{makes-hole}
use Rattle.pc_definitions.specs.TypeMakes.{makes-definition-node}
use Rattle.pc_definitions.proofs.types.type_definition.Goals as goal

pub returns-in_ok-found-in-Typedef : goal.returns-in_ok-found-in-Typedef
returns-in_ok-found-in-Typedef c =
    makes-definition-node c.args.block.0 c.args.owner.0 c.args.kid c.args.before c.args.tables.now c.type_defined.new.tables c.args.node.now c.in-Typedef.name.now c.in-Typedef.denoter.now c.in_ok-found-in-Typedef.found
    c.in-Typedef.ensures.proper c.in-Typedef.ensures.value c.in-Typedef.ensures.kids c.in_ok-found-in-Typedef.ensures

pub returns-in-Hole : goal.returns-in-Hole
returns-in-Hole c =
    makes-hole (AtDefinition kind.Typedef c.args.kid c.args.before c.args.node.now) c.args.block.0 c.args.owner.0 c.args.tables.now c.in-Hole.sort c.hole.result c.hole.ensures c.args.node.now c.in-Hole.ensures.proper
    c.in-Hole.ensures.value
