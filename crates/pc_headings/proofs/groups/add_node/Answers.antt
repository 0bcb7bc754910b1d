use Rattle.std.proofs.Common.{◌∙◌, refl}
use Rattle.pc_headings.specs.GroupLaws.{node-value, node-reference, node-hole, group-hole}
use Rattle.pc_headings.proofs.groups.add_node.Goals as goal

pub returns-in_ok-part-in-Valparam : goal.returns-in_ok-part-in-Valparam
returns-in_ok-part-in-Valparam c =
    let parts = c.value_group.result in
    node-value c.args.tables.now c.add_group.new.tables c.args.outer.0 c.args.owner.0 c.args.listed.now c.add_group.new.listed c.args.node.now parts.0.now parts.1.now c.in_ok-part-in-Valparam.part
    c.value_group.ensures.proper c.value_group.ensures.form c.in_ok-part-in-Valparam.ensures

pub returns-in_ok-part-in-Varparam : goal.returns-in_ok-part-in-Varparam
returns-in_ok-part-in-Varparam c =
    let parts = c.variable_group.result in
    node-reference c.args.tables.now c.add_group-in-Varparam.new.tables c.args.outer.0 c.args.owner.0 c.args.listed.now c.add_group-in-Varparam.new.listed c.args.node.now parts.0.now parts.1.now c.in_ok-part-in-Varparam.part
    c.variable_group.ensures.proper c.variable_group.ensures.form c.in_ok-part-in-Varparam.ensures

pub returns-in_default : goal.returns-in_default
returns-in_default c =
    let node = c.args.node.now in
    let hole = group-hole node.kind c.requires.class (λ e. c.in_default.not-Valparam (c.kind.ensures.value ∙ e)) (λ e. c.in_default.not-Varparam (c.kind.ensures.value ∙ e)) in
    node-hole c.args.tables.now c.args.outer.0 c.args.owner.0 c.args.listed.now node hole.0 _ hole.1 refl c.new.ensures.items
