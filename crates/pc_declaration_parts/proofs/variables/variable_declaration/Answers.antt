use Rattle.pc_syntax.specs.declared.kind.Kind.TheVariants as kind
use Rattle.pc_definitions.specs.Numbered.{AtDefinition}
use Rattle.pc_declaration_parts.specs.RowTurns.{turns-hole, turns-node}
use Rattle.pc_declaration_parts.proofs.variables.variable_declaration.Goals as goal

pub returns-in_ok-found-in-Vardef : goal.returns-in_ok-found-in-Vardef
returns-in_ok-found-in-Vardef c =
    turns-node c.args.block.0 c.args.owner.0 c.args.kid c.args.before c.args.domains.now c.variables_declared.new.domains c.args.tables.now c.variables_declared.new.tables c.args.node.now c.in-Vardef.names.now
    c.in-Vardef.denoter.now c.in_ok-found-in-Vardef.found c.in-Vardef.ensures.proper c.in-Vardef.ensures.value c.in-Vardef.ensures.kids c.in_ok-found-in-Vardef.ensures

pub returns-in-Hole : goal.returns-in-Hole
returns-in-Hole c =
    turns-hole c.blocks_see_the_same.ensures (AtDefinition kind.Vardef c.args.kid c.args.before c.args.node.now) c.args.block.0 c.args.owner.0 c.args.domains.now c.args.tables.now c.in-Hole.sort c.hole.result c.hole.ensures c.args.node.now
    c.in-Hole.ensures.proper c.in-Hole.ensures.value
