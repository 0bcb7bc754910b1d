use Rattle.std.proofs.Common.{sym, ap, ◌∙◌}
use Rattle.pc_syntax.specs.Classes.{has}
use Rattle.pc_syntax.specs.declared.class.Class.TheVariants as class
use Rattle.pc_told.specs.Contexts.{meant_role}
use Rattle.pc_told.specs.KindLaws.{operand-is}
use Rattle.pc_told.specs.TellsLaws.{tells-type, tells-nothing}
use Rattle.pc_told.proofs.below.tell_own.Goals as goal

pub type_of-requires : goal.type_of-requires
type_of-requires c = record { block = c.requires; operand = ap (has class.Operand) (sym c.kind.ensures.value) ∙ sym c.has.ensures ∙ c.if-has.true }

pub returns-in_ok-push : goal.returns-in_ok-push
returns-in_ok-push c =
    let node = c.args.node.now in
    let is = operand-is node.kind ∙ ap (has class.Operand) (sym c.kind.ensures.value) ∙ sym c.has.ensures ∙ c.if-has.true in
    tells-type c.args.body.now c.args.going.now c.type_of.new.going c.args.told.now.items c.push.new.self.items (meant_role c.args.role) node c.in_ok-of.of is c.in_ok-push.ensures.items c.in_ok-of.ensures

pub returns-else-has : goal.returns-else-has
returns-else-has c =
    let node = c.args.node.now in
    let isnt = operand-is node.kind ∙ ap (has class.Operand) (sym c.kind.ensures.value) ∙ sym c.has.ensures ∙ c.if-has.false in
    tells-nothing c.args.body.now c.args.going.now c.args.told.now.items (meant_role c.args.role) node isnt
